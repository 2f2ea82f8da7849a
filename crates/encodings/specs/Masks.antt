-- What a number means by the rows of a table, if one of them applies: each text as a mask and a value.
use Rattle.std.specs.Prelude.{ℕ, ◌+◌, ◌*◌, ◌^◌, Bool, not, ◌&&◌, ◌==◌, nat_le, if◌then◌else◌, List, [], ◌∷◌, length}
use Rattle.std.specs.Prelude.{Option, Some, None, bit_and}
use Rattle.std.specs.List.{list_any, list_all}
use Rattle.encodings.specs.Runs.{value_at}
use Rattle.instruction_set.specs.declared.instruction.Decoded.{Decoded}
use Rattle.instruction_set.specs.Patterns.{place_0, place_1, place_z, place_o}
use Rattle.instruction_set.specs.Rows.{Row, letters, as_printed}

-- whether a place fixes its bit, and whether to 1, as digits
abbrev pub mask_bit : ℕ → ℕ → ℕ → ℕ
mask_bit clear set place = if place == clear then 1 else if place == set then 1 else 0

abbrev pub value_bit : ℕ → ℕ → ℕ → ℕ
value_bit clear set place = if place == clear then 0 else if place == set then 1 else 0

-- the number whose binary digits are a function of each place
abbrev pub digits_of : (ℕ → ℕ) → List ℕ → ℕ
digits_of digit [] = 0
digits_of digit (place ∷ places) = digit place * 2 ^ length places + digits_of digit places

-- the bits that a text fixes, and the values that it fixes them to
abbrev pub mask_of : ℕ → ℕ → List ℕ → ℕ
mask_of clear set = digits_of (mask_bit clear set)

abbrev pub value_of : ℕ → ℕ → List ℕ → ℕ
value_of clear set = digits_of (value_bit clear set)

-- whether the bits of the mask are those of the value
unfoldable pub masked : ℕ → ℕ → ℕ → Bool
masked x mask value = bit_and x mask == value

-- the same by the text
abbrev pub by_text : ℕ → ℕ → List ℕ → ℕ → Bool
by_text clear set places x = masked x (mask_of clear set places) (value_of clear set places)

-- whether each text has at most 32 places
abbrev pub are_narrow : List (List ℕ) → Bool
are_narrow texts = list_all (λ text. nat_le (length text) 32) texts

-- whether one of the `except` texts fits
abbrev pub excepted : List (List ℕ) → ℕ → Bool
excepted texts x = list_any (λ text. by_text place_0 place_1 text x) texts

-- whether a row applies, by whether its text fits and whether one of its `except` texts does
unfoldable pub chosen : Bool → Bool → Bool
chosen fits except = fits && not except

-- whether a row with that text and these exceptions applies
abbrev pub applies_by_masks : List ℕ → List (List ℕ) → ℕ → Bool
applies_by_masks places except x = chosen (by_text place_0 place_1 places x) (excepted except x)

-- the decoding of the number by a row
abbrev pub outcome_of : Row → ℕ → Decoded
outcome_of row x = as_printed (by_text place_z place_o row.places x) (row.gives (letters (value_at row.places x)))

-- the decoding of the number by the first row that applies
unfoldable pub by_masks : List Row → ℕ → Option Decoded
by_masks [] x = None
by_masks (row ∷ rows) x =
    if applies_by_masks row.places row.except x then Some (outcome_of row x) else by_masks rows x

-- the decoding of a number by a table, and otherwise by the next
abbrev pub first_of : Option Decoded → Decoded → Decoded
first_of None otherwise = otherwise
first_of (Some decoded) otherwise = decoded
