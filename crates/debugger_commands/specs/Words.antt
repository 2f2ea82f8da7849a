-- The lines of a session, and the words and numbers in them (profile).
use Rattle.std.specs.Prelude.{ℕ, ◌+◌, ◌-◌, ◌*◌, ◌^◌, nat_lt, nat_le, Bool, true, false, ◌&&◌, ◌==◌, if◌then◌else◌, List}
use Rattle.std.specs.Prelude.{[], ◌∷◌, ◌++◌, length, take, drop, position, codes, bytes_eq, Option, Some, None}

-- ---- a line that is being read, None where it's too long

-- the most bytes of a line, its line feed not counted
abbrev pub max_bytes : ℕ
max_bytes = 80

abbrev pub with_byte : Option (List ℕ) → ℕ → Option (List ℕ)
with_byte None byte = None
with_byte (Some line) byte = if nat_lt (length line) max_bytes then Some (line ++ byte ∷ []) else None

-- whether no byte was read
abbrev pub is_empty : Option (List ℕ) → Bool
is_empty None = false
is_empty (Some []) = true
is_empty (Some (byte ∷ line)) = false

-- ---- words, parted by one space

abbrev pub is_space : ℕ → Bool
is_space byte = byte == 32

abbrev pub word_before : List ℕ → Option ℕ → List ℕ
word_before text None = text
word_before text (Some at) = take at text

abbrev pub words_after : List ℕ → Option ℕ → Option (List ℕ)
words_after text None = None
words_after text (Some at) = Some (drop (at + 1) text)

-- the first word, which may be empty
abbrev pub first_word : List ℕ → List ℕ
first_word text = word_before text (position is_space text)

-- the text after the first space, if there is one
abbrev pub more_words : List ℕ → Option (List ℕ)
more_words text = words_after text (position is_space text)

-- a text as one word, where it has no space
abbrev pub unless_more : List ℕ → Option (List ℕ) → Option (List ℕ)
unless_more text None = Some text
unless_more text (Some more) = None

abbrev pub one_word : Option (List ℕ) → Option (List ℕ)
one_word None = None
one_word (Some text) = unless_more text (more_words text)

pub record TwoWords : Type 0 where
  pub first : List ℕ
  pub second : List ℕ

abbrev pub with_second : List ℕ → Option (List ℕ) → Option TwoWords
with_second first None = None
with_second first (Some second) = Some (record { first = first; second = second })

-- the two words of a text that has just one space
abbrev pub two_words : Option (List ℕ) → Option TwoWords
two_words None = None
two_words (Some text) = with_second (first_word text) (one_word (more_words text))

pub record ThreeWords : Type 0 where
  pub first : List ℕ
  pub others : TwoWords

abbrev pub with_others : List ℕ → Option TwoWords → Option ThreeWords
with_others first None = None
with_others first (Some others) = Some (record { first = first; others = others })

-- the three words of a text that has two spaces
abbrev pub three_words : Option (List ℕ) → Option ThreeWords
three_words None = None
three_words (Some text) = with_others (first_word text) (two_words (more_words text))

-- ---- numbers: decimal, or hexadecimal after 0x, at most 2^32 - 1

-- the value of a digit, hexadecimal or decimal
abbrev pub digit : Bool → ℕ → Option ℕ
digit is_hex byte =
    if nat_le 48 byte && nat_le byte 57 then Some (byte - 48)
    else if is_hex && (nat_le 65 byte && nat_le byte 70) then Some (byte - 55)
    else if is_hex && (nat_le 97 byte && nat_le byte 102) then Some (byte - 87)
    else None

abbrev pub shifted : Bool → ℕ → ℕ
shifted is_hex n = if is_hex then n * 16 else n * 10

abbrev pub if_word : ℕ → Option ℕ
if_word n = if nat_lt n (2 ^ 32) then Some n else None

abbrev pub plus_digit : Bool → ℕ → Option ℕ → Option ℕ
plus_digit is_hex n None = None
plus_digit is_hex n (Some value) = if_word (shifted is_hex n + value)

-- a number with one digit more
abbrev pub with_digit : Bool → Option ℕ → ℕ → Option ℕ
with_digit is_hex None byte = None
with_digit is_hex (Some n) byte = plus_digit is_hex n (digit is_hex byte)

abbrev pub with_digits : Bool → Option ℕ → List ℕ → Option ℕ
with_digits is_hex n [] = n
with_digits is_hex n (byte ∷ bytes) = with_digits is_hex (with_digit is_hex n byte) bytes

-- the number of some digits, at least one
abbrev pub digits : Bool → List ℕ → Option ℕ
digits is_hex text = if length text == 0 then None else with_digits is_hex (Some 0) text

abbrev pub number : List ℕ → Option ℕ
number text = if bytes_eq (take 2 text) (codes "0x") then digits true (drop 2 text) else digits false text

abbrev pub in_range : ℕ → ℕ → Option ℕ → Option ℕ
in_range low high None = None
in_range low high (Some n) = if nat_le low n && nat_le n high then Some n else None

-- a number from `low` to `high`
abbrev pub number_within : ℕ → ℕ → List ℕ → Option ℕ
number_within low high text = in_range low high (number text)
