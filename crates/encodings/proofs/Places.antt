-- A number whose binary digits are a row's places, place by place from the highest.
use Rattle.std.proofs.Common.{◌≡◌, ℕ, suc, ◌+◌, ◌*◌, ◌^◌, ◌<◌, ◌≤◌, Bool, true, false, ◌==◌, if◌then◌else◌, List, []}
use Rattle.std.proofs.Common.{◌∷◌, length, drop, get_or, sym, ◌∙◌, arith}
use Rattle.std.proofs.Math.Pow.{pow_mono}
use Rattle.std.proofs.lemmas.List.{at_drop_more}
use Rattle.std.proofs.lemmas.Nat.{pow-add, row_fits}
use Rattle.encodings.specs.Masks.{mask_bit, value_bit, digits_of}

-- a number that grows by a bit stays a word
pub has_room : (before i n : ℕ) → before < 2 ^ i → i < n → n ≤ 32 → before * 2 + 1 < 2 ^ 32
has_room before i n small h m =
    let top : 2 ^ i ≤ 2 ^ 31 = pow_mono {i = i} {j = 31} (omega (arith, h, m)) in
    omega (arith, top, small)

pub grows : (before bit i : ℕ) → before < 2 ^ i → bit < 2 → before * 2 + bit < 2 ^ (i + 1)
grows before bit i small b = rw (pow-add 2 i 1) (omega (arith, small, b))

bit_small : (a b : Bool) (n : ℕ) → n < 2 → (if a then n else if b then 1 else 0) < 2
bit_small true b n h = h
bit_small false true n h = omega arith
bit_small false false n h = omega arith

pub mask_bit_small : (clear set place : ℕ) → mask_bit clear set place < 2
mask_bit_small clear set place = bit_small (place == clear) (place == set) 1 (omega arith)

pub value_bit_small : (clear set place : ℕ) → value_bit clear set place < 2
value_bit_small clear set place = bit_small (place == clear) (place == set) 0 (omega arith)

-- a number of `w` bits above one of `k` bits
pub joined_below : (a b w k : ℕ) → a < 2 ^ w → b < 2 ^ k → a * 2 ^ k + b < 2 ^ (w + k)
joined_below a b w k ha hb =
    rw (pow-add 2 w k) (omega (arith, row_fits a (2 ^ k) (2 ^ w) (2 ^ k) ha (omega arith), hb))

pub digits_below : (digit : ℕ → ℕ) → ((place : ℕ) → digit place < 2) → (places : List ℕ)
    → digits_of digit places < 2 ^ length places
digits_below digit small [] = omega arith
digits_below digit small (place ∷ places) =
    let order : suc (length places) ≡ 1 + length places = omega arith in
    rw order (joined_below (digit place) _ 1 (length places) (small place) (digits_below digit small places))

one_more : (before bit k rest : ℕ) → (before * 2 + bit) * 2 ^ k + rest ≡ before * 2 ^ suc k + (bit * 2 ^ k + rest)
one_more before bit k rest =
    let order : suc k ≡ 1 + k = omega arith in rw (order, pow-add 2 1 k) (omega arith)

pub digits_next : (digit : ℕ → ℕ) (text : List ℕ) (i d before : ℕ) → i < length text
    → (before * 2 + digit (get_or text i d)) * 2 ^ length (drop (i + 1) text) + digits_of digit (drop (i + 1) text)
    ≡ before * 2 ^ length (drop i text) + digits_of digit (drop i text)
digits_next digit text i d before h =
    one_more before (digit (get_or text i d)) (length (drop (i + 1) text)) (digits_of digit (drop (i + 1) text))
    ∙ sym (at_drop_more (λ rest. before * 2 ^ length rest + digits_of digit rest) text i d h)
