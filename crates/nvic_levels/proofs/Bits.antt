-- One bit of a set is changed.
use Rattle.std.specs.Prelude.{ℕ, ◌+◌, ◌*◌, ◌/◌, ◌%◌, ◌^◌, ◌<◌, ◌≡◌, ◌≢◌, Bool, true, ◌&&◌, ◌==◌, if◌then◌else◌}
use Rattle.std.specs.Prelude.{bit_and, List, [], length, slice_index, slice_index_or, slice_set}
use Rattle.std.specs.Int.{bit_not, trailing_zeros}
use Rattle.std.proofs.Math.Nat.{zero-div}
use Rattle.std.proofs.Common.{arith, ap, refl, ◌∙◌, ◌≤◌, ◌⊎◌, inl, inr, zero, suc, ◌∷◌, replicate, Some, false}
use Rattle.std.proofs.Common.{w32}
use Rattle.std.proofs.lemmas.Bool.{cases_lt, eq-eqb}
use Rattle.std.proofs.lemmas.Grind.{common_steps}
use Rattle.std.proofs.lemmas.Nat.Bits.{bit_at_clear_same, bit_at_clear_other}
use Rattle.std.proofs.lemmas.Nat.Bits.{bit_at-trailing_zeros}
use Rattle.nvic_levels.specs.Sets.{level, AreEmpty, IsFirstOf}
use Rattle.instruction_set.specs.Words.{bit_at, is_bit}
use Rattle.platform.specs.declared.exception.TheConstants.{EXCEPTIONS}
use Rattle.platform.specs.Priorities.{is_in_words}
use Rattle.platform.proofs.Bits.{with_bit, bit_set, bit_kept, no_bit}

-- a word with bit k cleared
abbrev without_bit : ℕ → ℕ → ℕ
without_bit v k = bit_and v (bit_not w32 (1 * 2 ^ k % 2 ^ 32))

bit_cleared : (v k : ℕ) → k < 32 → is_bit (without_bit v k) k ≡ false
bit_cleared v k h = ap (λ b. b == 1) (bit_at_clear_same w32 v k h)

bit_left : (v k i : ℕ) → k < 32 → i < 32 → i ≢ k → is_bit (without_bit v k) i ≡ is_bit v i
bit_left v k i h j d = ap (λ b. b == 1) (bit_at_clear_other w32 v k h i j d)

pub put_in : (words : List ℕ) (x y : ℕ) → x < 256 → y < 256 → length words ≡ 8
    → is_in_words (slice_set words (x / 32) (with_bit (slice_index words (x / 32)) (x % 32))) y
    ≡ (if y == x then true else is_in_words words y)
put_in words x y lx ly l = grind (arith, common_steps, bit_set, bit_kept)

pub taken_out : (words : List ℕ) (x y : ℕ) → x < 256 → y < 256 → length words ≡ 8
    → is_in_words (slice_set words (x / 32) (without_bit (slice_index words (x / 32)) (x % 32))) y
    ≡ (if y == x then false else is_in_words words y)
taken_out words x y lx ly l = grind (arith, common_steps, bit_cleared, bit_left)

pub put_level : (levels : List (List ℕ)) (set : List ℕ) (q x p y : ℕ) (on : Bool) → q < length levels
    → is_in_words set y ≡ (if y == x then on else is_in_words (slice_index_or levels q []) y)
    → is_in_words (level (slice_set levels q set) p) y
    ≡ (if (p == q) && (y == x) then on else is_in_words (level levels p) y)
put_level levels set q x p y on h e = grind (arith, common_steps)

-- ---- the first bit

-- an exception of a word
in_word : (set : List ℕ) (word y : ℕ) → word * 32 ≤ y → y < word * 32 + 32
    → is_in_words set y ≡ is_bit (slice_index set word) (y % 32)
in_word set word y from to = let e : y / 32 ≡ word = omega arith in rw e refl

pub none_in_word : (set : List ℕ) (word : ℕ) → slice_index set word ≡ 0
    → ((y : ℕ) → y < word * 32 → is_in_words set y ≡ false)
    → (y : ℕ) → y < (word + 1) * 32 → is_in_words set y ≡ false
none_in_word set word e before y h = lead (cases_lt y (word * 32))
  where
    lead : ((y < word * 32) ⊎ (word * 32 ≤ y)) → is_in_words set y ≡ false
    lead (inl below) = before y below
    lead (inr above) = in_word set word y above (omega arith) ∙ rw (e, zero-div (2 ^ (y % 32))) refl

pub first_in_word : (set : List ℕ) (word : ℕ) → word < 8 → 0 < slice_index set word → slice_index set word < 2 ^ 32
    → ((y : ℕ) → y < word * 32 → is_in_words set y ≡ false)
    → IsFirstOf set (Some (word * 32 + trailing_zeros w32 (slice_index set word)))
first_in_word set word small some fits before = (room, there, none)
  where
    low : (trailing_zeros w32 (slice_index set word) < 32)
        × (bit_at (slice_index set word) (trailing_zeros w32 (slice_index set word)) ≡ 1)
        × ((i : ℕ) → i < trailing_zeros w32 (slice_index set word) → bit_at (slice_index set word) i ≡ 0)
    low = bit_at-trailing_zeros w32 (slice_index set word) some fits

    place : ℕ
    place = trailing_zeros w32 (slice_index set word)

    room : word * 32 + place < 256
    room = let l = low.0 in omega (arith, l, small)

    there : is_in_words set (word * 32 + place) ≡ true
    there =
        let l = low.0 in
        let m : (word * 32 + place) % 32 ≡ place = omega (arith, l) in
        in_word set word (word * 32 + place) (omega arith) (omega (arith, l)) ∙ ap (is_bit (slice_index set word)) m
        ∙ eq-eqb _ _ low.1

    none : (y : ℕ) → y < word * 32 + place → is_in_words set y ≡ false
    none y h = lead (cases_lt y (word * 32))
      where
        lead : ((y < word * 32) ⊎ (word * 32 ≤ y)) → is_in_words set y ≡ false
        lead (inl below) = before y below
        lead (inr above) =
            let l = low.0 in
            let m : y % 32 < place = omega (arith, l, h, above) in
            in_word set word y above (omega (arith, l, h)) ∙ ap (λ b. b == 1) (low.2 (y % 32) m)

-- ---- nothing

zero_word : (n k : ℕ) → slice_index (replicate n 0) k ≡ 0
zero_word zero k = refl
zero_word (suc n) zero = refl
zero_word (suc n) (suc k) = zero_word n k

pub none_due : (x : ℕ) → is_in_words (replicate 8 0) x ≡ false
none_due x = ap (λ w. is_bit w (x % 32)) (zero_word 8 (x / 32)) ∙ no_bit (x % 32)

pub none_in_empty : (y : ℕ) → is_in_words [] y ≡ false
none_in_empty y = no_bit (y % 32)

pub no_level : (n : ℕ) (set : List ℕ) → ((x : ℕ) → is_in_words set x ≡ false) → (p : ℕ) (x : ℕ)
    → is_in_words (level (replicate n set) p) x ≡ false
no_level zero set none p x = none_in_empty x
no_level (suc n) set none zero x = none x
no_level (suc n) set none (suc p) x = no_level n set none p x

past_levels : (levels : List (List ℕ)) (p : ℕ) → length levels ≤ p → level levels p ≡ []
past_levels [] p h = refl
past_levels (s ∷ levels) zero h = absurd (omega arith)
past_levels (s ∷ levels) (suc p) h = past_levels levels p (omega arith)

pub all_empty : (levels : List (List ℕ)) → length levels ≡ 256 → AreEmpty levels 256
    → (p : ℕ) (y : ℕ) → y < EXCEPTIONS → is_in_words (level levels p) y ≡ false
all_empty levels e none p y h = lead (cases_lt p 256)
  where
    lead : ((p < 256) ⊎ (256 ≤ p)) → is_in_words (level levels p) y ≡ false
    lead (inl within) = none p within y h
    lead (inr past) = ap (λ s. is_in_words s y) (past_levels levels p (omega (arith, e, past))) ∙ none_in_empty y
