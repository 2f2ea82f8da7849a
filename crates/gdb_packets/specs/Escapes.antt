-- Escaped bytes (GDB manual, "Overview" of the Remote Serial Protocol).
use Rattle.std.specs.Prelude.{ℕ, Bool, true, false, ◌||◌, ◌==◌, if◌then◌else◌, List, [], ◌∷◌, ◌++◌, bit_xor}

-- `$` begins a packet
abbrev pub dollar : ℕ
dollar = 36

-- `#` ends the data of a packet
abbrev pub hash : ℕ
hash = 35

-- `*` begins a run in a reply
abbrev pub star : ℕ
star = 42

-- `}` escapes the next byte
abbrev pub escape : ℕ
escape = 125

-- a byte with bit 5 inverted: the other byte of an escaped pair
abbrev pub inverted : ℕ → ℕ
inverted byte = bit_xor byte 32

-- whether a reply has to escape a byte
abbrev pub is_special : ℕ → Bool
is_special byte = byte == dollar || (byte == hash || (byte == star || byte == escape))

-- a byte as it is in a reply
abbrev pub escaped_byte : ℕ → List ℕ
escaped_byte byte = if is_special byte then escape ∷ inverted byte ∷ [] else byte ∷ []

-- the bytes of a reply's data
unfoldable pub escaped : List ℕ → List ℕ
escaped [] = []
escaped (byte ∷ bytes) = escaped_byte byte ++ escaped bytes

-- what a byte gives, where the byte before it was the escape or not
abbrev pub unescaped_byte : Bool → ℕ → List ℕ
unescaped_byte true byte = inverted byte ∷ []
unescaped_byte false byte = if byte == escape then [] else byte ∷ []

-- whether a byte escapes the next one
abbrev pub escapes_next : Bool → ℕ → Bool
escapes_next true byte = false
escapes_next false byte = byte == escape

unfoldable pub unescaped_after : Bool → List ℕ → List ℕ
unescaped_after after_escape [] = []
unescaped_after after_escape (byte ∷ bytes) =
    unescaped_byte after_escape byte ++ unescaped_after (escapes_next after_escape byte) bytes

-- the data of a packet. An escape at the end gives nothing (profile)
abbrev pub unescaped : List ℕ → List ℕ
unescaped bytes = unescaped_after false bytes
