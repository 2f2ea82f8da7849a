-- Bytes as hexadecimal digits, two for each (GDB manual, "Packets", m and M).
use Rattle.std.specs.Prelude.{ℕ, zero, suc, ◌+◌, ◌*◌, List, [], ◌∷◌, ◌++◌, slice_index, unwrap_or}
use Rattle.gdb_packets.specs.Digits.{digit_of, two_digits}

-- the lower-case digits of bytes
unfoldable pub bytes_text : List ℕ → List ℕ
bytes_text [] = []
bytes_text (byte ∷ bytes) = two_digits byte ++ bytes_text bytes

-- the value of a digit. Any other byte counts as 0: the packets that were read have none
abbrev pub digit_value : ℕ → ℕ
digit_value byte = unwrap_or (digit_of byte) 0

-- byte `index` of digits
unfoldable pub byte_at : List ℕ → ℕ → ℕ
byte_at digits index =
    digit_value (slice_index digits (2 * index)) * 16 + digit_value (slice_index digits (2 * index + 1))

-- the first bytes of digits
unfoldable pub first_bytes : List ℕ → ℕ → List ℕ
first_bytes digits zero = []
first_bytes digits (suc index) = first_bytes digits index ++ byte_at digits index ∷ []
