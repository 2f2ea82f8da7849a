-- The tables of rows, one after the other.
use Rattle.std.proofs.Common.{◌≡◌, ℕ, List, [], ◌∷◌, ap, ◌∙◌, refl}
use Rattle.encodings.specs.Masks.{by_masks, first_of}
use Rattle.encodings.proofs.Masks.{found_by_masks}
use Rattle.instruction_set.specs.declared.instruction.Decoded.{Decoded}
use Rattle.instruction_set.specs.declared.instruction.Decoded.TheVariants.{Undefined}
use Rattle.instruction_set.specs.Decoding.{rows_of, short_tables, short_meaning, long_tables, long_meaning}
use Rattle.instruction_set.specs.Rows.{Row, meaning}

-- what the first table makes of the number that has a row for it
abbrev by_tables : List (List Row) → ℕ → Decoded
by_tables [] x = Undefined
by_tables (rows ∷ rest) x = first_of (by_masks rows x) (by_tables rest x)

meaning_by_tables : (list : List (List Row)) (x : ℕ) → meaning (rows_of list) Undefined x ≡ by_tables list x
unfolding meaning
meaning_by_tables [] x = refl
meaning_by_tables (rows ∷ rest) x =
    found_by_masks rows (rows_of rest) Undefined x ∙ ap (λ d. first_of (by_masks rows x) d) (meaning_by_tables rest x)

pub short_by_tables : (x : ℕ) → short_meaning x ≡ by_tables short_tables x
unfolding short_meaning
short_by_tables x = meaning_by_tables short_tables x

pub long_by_tables : (x : ℕ) → long_meaning x ≡ by_tables long_tables x
unfolding long_meaning
long_by_tables x = meaning_by_tables long_tables x
