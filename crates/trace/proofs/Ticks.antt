-- The digits of a tick, with the last one apart.
use Rattle.std.proofs.Common.{◌≡◌, ℕ, zero, suc, ◌+◌, ◌-◌, ◌/◌, ◌%◌, ◌^◌, ◌<◌, ◌≤◌, List, [], ◌∷◌, ◌++◌, refl, inl, inr}
use Rattle.std.proofs.Common.{arith, eq-zero-or-pos, append_assoc, length, take, get_or, sym, ap, ◌∙◌}
use Rattle.std.proofs.Math.ListN.{set}
use Rattle.std.proofs.Math.Seq.{take-append_seam, get_or-append_seam, take-suc, take-suc-set}
use Rattle.std.proofs.lemmas.List.{length-append, length-take}
use Rattle.std.proofs.lemmas.Fmt.{decimal_digit, decimal_step, length-decimal-le}
use Rattle.std.specs.Fmt.{decimal}
use Rattle.trace.specs.Digits.{AreDigits, front_of}

front_above : (t : ℕ) → 0 < t → front_of t ≡ decimal t
front_above zero h = absurd (omega arith)
front_above (suc t) h = refl

-- the digits before the last one, and the last one
pub whole : (n : ℕ) → n < 2 ^ 64 → front_of (n / 10) ++ ((48 + n % 10) ∷ []) ≡ decimal n
whole n h =
    elim (eq-zero-or-pos (n / 10)) [
      | inl z ↦ let e : n % 10 ≡ n = omega arith in rw (z, e, decimal_digit n (omega arith))
      | inr g ↦ rw (front_above (n / 10) g, decimal_step n (omega arith) h)
    ]

-- a page with the digits before the last one, which ten ticks from `first` on have, and the last one
pub put_whole : (page front : List ℕ) (first last n : ℕ) → n < 2 ^ 64 → first % 10 ≡ 0 → first ≤ n → n ≤ first + 9 →
    front ≡ front_of (first / 10) → last ≡ 48 + (n - first) → (page ++ front) ++ (last ∷ []) ≡ page ++ decimal n
put_whole page front first last n h t a b f l =
    let tenth : first / 10 ≡ n / 10 = omega arith in
    let digit : 48 + (n - first) ≡ 48 + n % 10 = omega arith in
    rw (f, tenth, l, digit, append_assoc, whole n h)

-- ---- the next ten ticks

-- two lists with one more element each
snoc_parts : (xs ys : List ℕ) (x y : ℕ) → xs ++ x ∷ [] ≡ ys ++ y ∷ [] → (xs ≡ ys) × (x ≡ y)
snoc_parts xs ys x y same =
    let long : length xs ≡ length ys =
    omega (arith, length-append xs (x ∷ []), length-append ys (y ∷ []), ap length same) in (
      sym (take-append_seam xs (x ∷ [])) ∙ ap (take (length xs)) same
          ∙ ap (λ n. take n (ys ++ y ∷ [])) long ∙ take-append_seam ys (y ∷ []),
      sym (get_or-append_seam xs x [] 0) ∙ ap (λ l. get_or l (length xs) 0) same
          ∙ ap (λ n. get_or (ys ++ y ∷ []) n 0) long ∙ get_or-append_seam ys y [] 0,
    )

-- a number with digits isn't 0
some_tenth : (digits : List ℕ) (tenth : ℕ) → 0 < length digits → digits ≡ front_of tenth → 0 < tenth
some_tenth digits zero some are = absurd (omega (arith, some, ap length are))
some_tenth digits (suc tenth) some are = omega arith

-- the digits of a tenth, and of the next one where the last digit isn't 9
next_front : (front : List ℕ) (last tenth : ℕ) → tenth + 1 < 2 ^ 64 → 0 < tenth → last < 57
    → front ++ last ∷ [] ≡ front_of tenth → front ++ (last + 1) ∷ [] ≡ front_of (tenth + 1)
next_front front last tenth small some below are =
    let parts = snoc_parts front (front_of (tenth / 10)) last (48 + tenth % 10)
    (are ∙ front_above tenth some ∙ sym (whole tenth (omega (arith, small)))) in
    let ten : tenth / 10 ≡ (tenth + 1) / 10 = omega (arith, parts.1, below) in
    let digit : last + 1 ≡ 48 + (tenth + 1) % 10 = omega (arith, parts.1, below) in
    rw (parts.0, ten, digit) (whole (tenth + 1) small ∙ sym (front_above (tenth + 1) (omega arith)))

-- the digits of the next ten ticks
pub counted_up : (front : List ℕ) (at count first : ℕ) → count ≡ suc at → at < length front → first + 10 < 2 ^ 64
    → get_or front at 0 < 57 → AreDigits front count first
    → AreDigits (set front at (get_or front at 0 + 1)) count (first + 10)
counted_up front at count first here inside small below are =
    let tenth : (first + 10) / 10 ≡ first / 10 + 1 = omega arith in
    let least : first / 10 + 1 < 2 ^ 64 = omega (arith, small) in
    let same : suc at ≡ count = sym here in
    let kept : take at front ++ get_or front at 0 ∷ [] ≡ front_of (first / 10) =
    sym (take-suc front at 0 inside) ∙ ap (λ n. take n front) same ∙ are.front_digits in
    let long : 0 < length (take count front) = omega (arith, length-take count front, here, inside) in
    let some : 0 < first / 10 = some_tenth (take count front) (first / 10) long are.front_digits in
    let whole_ten : (first + 10) % 10 ≡ 0 = omega (arith, are.whole_ten) in record {
      front_digits = ap (λ n. take n (set front at (get_or front at 0 + 1))) here
          ∙ take-suc-set front at (get_or front at 0 + 1) inside
          ∙ next_front (take at front) (get_or front at 0) (first / 10) least some below kept
          ∙ ap front_of (sym tenth);
      whole_ten = whole_ten;
      few = are.few;
      fits = small;
    }

-- the digits before the last one of a tick of at most 17 digits
pub few_digits : (n : ℕ) → n < 10 ^ 17 → length (decimal (n / 10)) ≤ 16
few_digits n small =
    let tenth : n / 10 < 10 ^ 16 = omega arith in
    length-decimal-le 16 (n / 10) (omega arith) tenth (omega (arith, tenth))

-- ---- whether a tick is one of the ten

-- a difference that wraps is below ten for no other tick
pub among : (first tick : ℕ) → first < 2 ^ 63 → tick < 2 ^ 64 → (tick + (2 ^ 64 - first)) % 2 ^ 64 < 10
    → (first ≤ tick) × (tick < first + 10)
among first tick low small near = (omega arith, omega arith)

-- nor from ten to nineteen
pub among_next : (first tick : ℕ) → first < 2 ^ 63 → tick < 2 ^ 64 → 10 ≤ (tick + (2 ^ 64 - first)) % 2 ^ 64
    → (tick + (2 ^ 64 - first)) % 2 ^ 64 < 20 → (first + 10 ≤ tick) × (tick < first + 20)
among_next first tick low small from below = (omega arith, omega arith)

-- ---- the number of a region

-- the two digits of a number from 10 to 19
pub from_ten : (n : ℕ) → 10 ≤ n → n < 20 → decimal n ≡ 49 ∷ (48 + (n - 10)) ∷ []
from_ten n above below =
    let one : n / 10 ≡ 1 = omega (arith, above, below) in
    let digit : 48 + n % 10 ≡ 48 + (n - 10) = omega (arith, above, below) in
    decimal_step n above (omega (arith, below)) ∙ rw (one, digit, decimal_digit 1 (omega arith)) refl
