-- Words of 32 bits, as whole numbers (ARM DDI 0403, "Pseudocode definition": "Bitstrings" and "Integers").
use Rattle.std.specs.Prelude.{ℕ, ◌+◌, ◌-◌, ◌/◌, ◌%◌, ◌^◌, Bool, nat_lt, ◌==◌, if◌then◌else◌}

-- the low 32 bits of x: x<31:0>
abbrev pub low_word : ℕ → ℕ
low_word x = x % 2 ^ 32

-- the sum of two words, whose bits above the thirty-second are lost
abbrev pub word_sum : ℕ → ℕ → ℕ
word_sum x y = (x + y) % 2 ^ 32

-- -x as a word: the two's complement of x
unfoldable pub negated : ℕ → ℕ
negated x = (2 ^ 32 - x) % 2 ^ 32

-- `width` bits of x from bit `low` upward: x<low + width - 1:low>
unfoldable pub bits : ℕ → ℕ → ℕ → ℕ
bits x low width = x / 2 ^ low % 2 ^ width

-- bit k of x, as a number: x<k>
abbrev pub bit_at : ℕ → ℕ → ℕ
bit_at x k = x / 2 ^ k % 2

-- whether bit k of x is 1
abbrev pub is_bit : ℕ → ℕ → Bool
is_bit x k = bit_at x k == 1

-- x, a signed number of `width` bits, as a word: SignExtend(x, 32)
abbrev pub sign_extended : ℕ → ℕ → ℕ
sign_extended width x = if nat_lt x (2 ^ (width - 1)) then x else x + (2 ^ 32 - 2 ^ width)
