-- Hexadecimal digits.
use Rattle.std.specs.Prelude.{ℕ, ◌+◌, ◌-◌, ◌*◌, ◌/◌, ◌%◌, nat_lt, nat_le, ◌&&◌, if◌then◌else◌, List, [], ◌∷◌, Option}
use Rattle.std.specs.Prelude.{Some, None}

-- the value of a digit in either case: 0 to 9, A to F, a to f
abbrev pub digit_of : ℕ → Option ℕ
digit_of byte =
    if nat_le 48 byte && nat_le byte 57 then Some (byte - 48)
    else if nat_le 65 byte && nat_le byte 70 then Some (byte - 55)
    else if nat_le 97 byte && nat_le byte 102 then Some (byte - 87)
    else None

abbrev pub joined : Option ℕ → Option ℕ → Option ℕ
joined (Some high) (Some low) = Some (high * 16 + low)
joined (Some high) None = None
joined None low = None

-- the byte of two digits
abbrev pub byte_of : ℕ → ℕ → Option ℕ
byte_of high low = joined (digit_of high) (digit_of low)

-- the lower-case digit of a value below 16
abbrev pub lower_digit : ℕ → ℕ
lower_digit value = if nat_lt value 10 then 48 + value else 87 + value

-- the two lower-case digits of a byte
abbrev pub two_digits : ℕ → List ℕ
two_digits byte = lower_digit (byte / 16) ∷ lower_digit (byte % 16) ∷ []
