-- A text fits a number where the number's bits under the text's mask are the text's value, and what rows mean by that.
use Rattle.std.proofs.Common.{◌≡◌, ℕ, ◌+◌, ◌*◌, ◌/◌, ◌%◌, ◌^◌, ◌<◌, Bool, true, false, ◌&&◌, ◌==◌, if◌then◌else◌, List}
use Rattle.std.proofs.Common.{[], ◌∷◌, ◌++◌, length, find, Option, Some, refl, sym, ap, ◌∙◌, arith, bit_and}
use Rattle.std.proofs.Math.Nat.{mod-lt}
use Rattle.std.proofs.Math.Path.{fun_ext}
use Rattle.std.proofs.Math.Pow.{split}
use Rattle.std.proofs.lemmas.Bool.Decides.{nat_tests}
use Rattle.std.proofs.lemmas.Nat.{and_block, and_mask, and_le_r, mod_low, pow_pos, shr_high}
use Rattle.encodings.specs.Masks.{mask_bit, value_bit, mask_of, value_of, masked, by_text, excepted, chosen, outcome_of}
use Rattle.encodings.specs.Masks.{by_masks, first_of}
use Rattle.encodings.proofs.Places.{mask_bit_small, value_bit_small, digits_below}
use Rattle.encodings.proofs.Runs.{field_is}
use Rattle.instruction_set.specs.declared.instruction.Decoded.{Decoded}
use Rattle.instruction_set.specs.Patterns.{place_0, place_1, place_z, place_o, allows, has_bits}
use Rattle.instruction_set.specs.Rows.{Row, letters, applies, as_printed, by_row, by_found}

-- ---- one place

and_zero : (y : ℕ) → bit_and y 0 ≡ 0
and_zero y = omega (arith, and_le_r y 0)

by_tests : (a b : Bool) (y : ℕ)
    → (if a then y % 2 == 0 else if b then y % 2 == 1 else true)
    ≡ (bit_and y (if a then 1 else if b then 1 else 0) == (if a then 0 else if b then 1 else 0))
by_tests true b y = rw (and_mask y 1) refl
by_tests false true y = rw (and_mask y 1) refl
by_tests false false y = rw (and_zero y) refl

allows_by_mask : (clear set place y : ℕ)
    → allows clear set place (y % 2) ≡ (bit_and y (mask_bit clear set place) == value_bit clear set place)
allows_by_mask clear set place y = by_tests (place == clear) (place == set) y

-- ---- one place more

digits_apart : (a v k l r : ℕ) → l < 2 ^ k → r < 2 ^ k → (a * 2 ^ k + l == v * 2 ^ k + r) ≡ ((a == v) && (l == r))
digits_apart a v k l r hl hr =
    grind (arith, nat_tests, shr_high a k l hl, shr_high v k r hr, mod_low a k l hl, mod_low v k r hr)

and_split : (x k b m : ℕ) → m < 2 ^ k
    → bit_and x (b * 2 ^ k + m) ≡ bit_and (x / 2 ^ k) b * 2 ^ k + bit_and (x % 2 ^ k) m
and_split x k b m h =
    ap (λ n. bit_and n (b * 2 ^ k + m)) (sym (split x k))
    ∙ and_block k (x / 2 ^ k) b (x % 2 ^ k) m (mod-lt x (pow_pos k)) h

and_more : (x k b m : ℕ) → m < 2 ^ k → bit_and x (b * 2 ^ k + m) ≡ bit_and (x / 2 ^ k) b * 2 ^ k + bit_and x m
and_more x k b m h =
    let low : bit_and x m ≡ bit_and (x / 2 ^ k) 0 * 2 ^ k + bit_and (x % 2 ^ k) m =
    ap (bit_and x) (omega arith) ∙ and_split x k 0 m h in
    and_split x k b m h ∙ rw (low, and_zero (x / 2 ^ k)) (omega arith)

pub bits_by_mask : (clear set : ℕ) (places : List ℕ) (x : ℕ)
    → has_bits clear set places x ≡ masked x (mask_of clear set places) (value_of clear set places)
unfolding has_bits masked
bits_by_mask clear set [] x = rw (and_zero x) refl
bits_by_mask clear set (place ∷ places) x =
    let mask = mask_of clear set places in
    let small : mask < 2 ^ length places = digits_below (mask_bit clear set) (mask_bit_small clear set) places in
    rw (
      allows_by_mask clear set place (x / 2 ^ length places),
      bits_by_mask clear set places x,
      and_more x (length places) (mask_bit clear set place) mask small,
    )
    (sym (digits_apart _ (value_bit clear set place) (length places) (bit_and x mask) (value_of clear set places)
    (omega (arith, and_le_r x mask, small)) (digits_below (value_bit clear set) (value_bit_small clear set) places)))

-- ---- the rows

applies_by_mask : (row : Row) (x : ℕ)
    → applies row x ≡ chosen (by_text place_0 place_1 row.places x) (excepted row.except x)
unfolding chosen
applies_by_mask row x =
    rw (bits_by_mask place_0 place_1 row.places x, fun_ext (λ text. bits_by_mask place_0 place_1 text x)) refl

by_row_is : (row : Row) (x : ℕ) → by_row row x ≡ outcome_of row x
by_row_is row x =
    rw (bits_by_mask place_z place_o row.places x)
    (ap (λ f. as_printed (by_text place_z place_o row.places x) (row.gives (letters f)))
    (fun_ext (λ letter. field_is row.places x letter)))

by_first : (test : Bool) (row : Row) (x : ℕ) (rest : Option Row) (otherwise after : Decoded) (more : Option Decoded)
    → by_found otherwise x rest ≡ first_of more after
    → by_found otherwise x (if test then Some row else rest)
    ≡ first_of (if test then Some (outcome_of row x) else more) after
by_first true row x rest otherwise after more h = by_row_is row x
by_first false row x rest otherwise after more h = h

-- the row of a table that applies, and otherwise that of the rows after it
pub found_by_masks : (table rows : List Row) (otherwise : Decoded) (x : ℕ)
    → by_found otherwise x (find (λ row. applies row x) (table ++ rows))
    ≡ first_of (by_masks table x) (by_found otherwise x (find (λ row. applies row x) rows))
unfolding by_masks
found_by_masks [] rows otherwise x = refl
found_by_masks (row ∷ table) rows otherwise x =
    rw (applies_by_mask row x) (by_first _ row x _ otherwise _ _ (found_by_masks table rows otherwise x))
