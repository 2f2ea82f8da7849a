-- The numbers of a packet, and its parts (GDB manual, "Packets" of the Remote Serial Protocol).
use Rattle.std.specs.Prelude.{ℕ, ◌+◌, ◌*◌, ◌^◌, nat_lt, nat_le, Bool, ◌&&◌, ◌||◌, ◌==◌, if◌then◌else◌, List, [], ◌∷◌}
use Rattle.std.specs.Prelude.{length, take, drop, position, Option, Some, None}
use Rattle.std.specs.List.{list_all}
use Rattle.gdb_packets.specs.Digits.{digit_of}

-- ---- a text in two parts

pub record Parts : Type 0 where
  pub front : List ℕ
  pub rest : List ℕ

abbrev pub parted_at : List ℕ → Option ℕ → Option Parts
parted_at text None = None
parted_at text (Some at) = Some (record { front = take at text; rest = drop (at + 1) text })

-- the parts before and after the first separator
abbrev pub parted : ℕ → List ℕ → Option Parts
parted separator text = parted_at text (position (λ byte. byte == separator) text)

-- ---- numbers: 1 to 8 digits (profile)

abbrev pub if_word : ℕ → Option ℕ
if_word n = if nat_lt n (2 ^ 32) then Some n else None

abbrev pub plus_digit : ℕ → Option ℕ → Option ℕ
plus_digit n None = None
plus_digit n (Some value) = if_word (n * 16 + value)

-- a number with one digit more
abbrev pub with_digit : Option ℕ → ℕ → Option ℕ
with_digit None byte = None
with_digit (Some n) byte = plus_digit n (digit_of byte)

abbrev pub with_digits : Option ℕ → List ℕ → Option ℕ
with_digits n [] = n
with_digits n (byte ∷ bytes) = with_digits (with_digit n byte) bytes

abbrev pub digits : List ℕ → Option ℕ
digits text = with_digits (Some 0) text

abbrev pub number : List ℕ → Option ℕ
number text = if length text == 0 || nat_lt 8 (length text) then None else digits text

abbrev pub pair_of : Option ℕ → Option ℕ → Option (ℕ × ℕ)
pair_of (Some first) (Some second) = Some (first, second)
pair_of (Some first) None = None
pair_of None second = None

abbrev pub numbers_in : Option Parts → Option (ℕ × ℕ)
numbers_in None = None
numbers_in (Some parts) = pair_of (number parts.front) (number parts.rest)

-- `,`
abbrev pub comma : ℕ
comma = 44

-- two numbers with a comma between
abbrev pub two_numbers : List ℕ → Option (ℕ × ℕ)
two_numbers text = numbers_in (parted comma text)

-- ---- bytes as digits

abbrev pub is_digit : ℕ → Bool
is_digit byte =
    nat_le 48 byte && nat_le byte 57 || (nat_le 65 byte && nat_le byte 70 || nat_le 97 byte && nat_le byte 102)

-- whether a text is this many digits
abbrev pub are_digits : ℕ → List ℕ → Bool
are_digits count text = length text == count && list_all is_digit text
