-- The text of a row, which is one or several encodings of one shape: its places are bits, from the highest down. A
-- place `0` or `1` is a bit that has to have this value. A letter is a bit of the field of that name; where a letter
-- has several runs, they are joined from the highest. A bit at a place `z` should be 0, and one at a place `o` should
-- be 1: the row fits whatever the bit is, and where it has the other value, the encoding is UNPREDICTABLE. A bit at a
-- place `x` is ignored. Blanks are for the eye alone.
use Rattle.std.specs.Prelude.{ℕ, ◌+◌, ◌*◌, Bool, true, false, ◌&&◌, ◌==◌, if◌then◌else◌, List, [], ◌∷◌, length}
use Rattle.instruction_set.specs.Words.{bit_at}

-- ---- the characters that are no letter of a field

-- a blank
abbrev pub no_place : ℕ
no_place = 32

abbrev pub place_0 : ℕ
place_0 = 48

abbrev pub place_1 : ℕ
place_1 = 49

abbrev pub place_z : ℕ
place_z = 122

abbrev pub place_o : ℕ
place_o = 111

-- ---- places

-- the places with one more character before them, unless that is a blank
abbrev pub with_character : Bool → ℕ → List ℕ → List ℕ
with_character true character places = places
with_character false character places = character ∷ places

-- the places of a text
abbrev pub unspaced : List ℕ → List ℕ
unspaced [] = []
unspaced (character ∷ text) = with_character (character == no_place) character (unspaced text)

-- whether a place allows a bit, where `clear` marks the places of a 0 and `set` those of a 1
abbrev pub allows : ℕ → ℕ → ℕ → ℕ → Bool
allows clear set place bit = if place == clear then bit == 0 else if place == set then bit == 1 else true

-- whether x has a 0 at each place with the character `clear`, and a 1 at each with the character `set`
unfoldable pub has_bits : ℕ → ℕ → List ℕ → ℕ → Bool
has_bits clear set [] x = true
has_bits clear set (place ∷ places) x = allows clear set place (bit_at x (length places)) && has_bits clear set places x

-- whether x has the value of each bit printed 0 or 1
abbrev pub fits : List ℕ → ℕ → Bool
fits places x = has_bits place_0 place_1 places x

-- whether x has the value of each bit printed (0) or (1)
abbrev pub is_as_printed : List ℕ → ℕ → Bool
is_as_printed places x = has_bits place_z place_o places x

-- ---- fields

-- the bits of the number at the letter's places, joined after those that were before
unfoldable pub joined_field : ℕ → List ℕ → ℕ → ℕ → ℕ
joined_field letter [] x before = before
joined_field letter (place ∷ places) x before =
    joined_field letter places x (if place == letter then before * 2 + bit_at x (length places) else before)

-- the field of that letter
abbrev pub field : List ℕ → ℕ → ℕ → ℕ
field places x letter = joined_field letter places x 0
