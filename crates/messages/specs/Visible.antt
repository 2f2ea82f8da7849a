-- A character as a message has it.
use Rattle.std.specs.Prelude.{ℕ, ◌+◌, ◌/◌, ◌%◌, Bool, ◌&&◌, ◌||◌, nat_lt, nat_le, if◌then◌else◌, List, [], ◌∷◌, ◌++◌}
use Rattle.std.specs.Prelude.{codes, encode_utf8}
use Rattle.std.specs.List.{list_any}
use Rattle.messages.specs.declared.visible.Range.{Range}

-- the characters from one to another, both of them too
abbrev pub range : ℕ → ℕ → Range
range first last = record { first = first; last = last }

-- a character is in a range
abbrev pub is_in : ℕ → Range → Bool
is_in c range = nat_le range.first c && nat_le c range.last

-- What a display hides or acts on: controls, the separators of lines and paragraphs, the marks of annotations
-- (categories Cc, Zl and Zp of Unicode, and U+FFF9 to U+FFFB), and the property Default_Ignorable_Code_Point.
abbrev pub hidden : List Range
hidden =
    range 0x0 0x1F ∷ range 0x7F 0x9F ∷ range 0xAD 0xAD ∷ range 0x34F 0x34F ∷ range 0x61C 0x61C
    ∷ range 0x115F 0x1160 ∷ range 0x17B4 0x17B5 ∷ range 0x180B 0x180F ∷ range 0x200B 0x200F ∷ range 0x2028 0x202E
    ∷ range 0x2060 0x206F ∷ range 0x3164 0x3164 ∷ range 0xFE00 0xFE0F ∷ range 0xFEFF 0xFEFF ∷ range 0xFFA0 0xFFA0
    ∷ range 0xFFF0 0xFFFB ∷ range 0x1BCA0 0x1BCA3 ∷ range 0x1D173 0x1D17A ∷ range 0xE0000 0xE0FFF ∷ []

-- the noncharacters of Unicode (23.7), which no text has: U+FDD0 to U+FDEF, and the last two codes of each plane
abbrev pub is_noncharacter : ℕ → Bool
is_noncharacter c = is_in c (range 0xFDD0 0xFDEF) || nat_le 0xFFFE (c % 0x1_0000)

-- a character that a message escapes
unfoldable pub is_hidden : ℕ → Bool
is_hidden c = list_any (is_in c) hidden || is_noncharacter c

-- the digit of a number below 16
abbrev pub hex_digit : ℕ → ℕ
hex_digit n = if nat_lt n 10 then 48 + n else 55 + n

-- two digits
abbrev pub hex_byte : ℕ → List ℕ
hex_byte n = hex_digit (n / 16) ∷ hex_digit (n % 16) ∷ []

-- the escape of a code in a basic string of TOML 1.1, with four digits
abbrev pub short_escape : ℕ → List ℕ
short_escape c = (codes "\\u" ++ hex_byte (c / 0x100 % 0x100)) ++ hex_byte (c % 0x100)

-- with eight
abbrev pub long_escape : ℕ → List ℕ
long_escape c =
    (((codes "\\U" ++ hex_byte (c / 0x100_0000)) ++ hex_byte (c / 0x1_0000 % 0x100)) ++ hex_byte (c / 0x100 % 0x100))
    ++ hex_byte (c % 0x100)

-- with eight where four are too few
abbrev pub escape : ℕ → List ℕ
escape c = if nat_lt c 0x1_0000 then short_escape c else long_escape c

-- a character as it is, or its escape
abbrev pub visible : ℕ → List ℕ
visible c = if is_hidden c then escape c else encode_utf8 c
