-- Registers as hexadecimal digits: eight for each, the lowest byte first (GDB manual, "Packets", g, G, p and P).
-- Their numbers are those of the target description: 0 to 12 R0 to R12, 13 SP, 14 LR, 15 PC, 16 xPSR, 17 MSP, 18 PSP,
-- 19 PRIMASK, 20 BASEPRI, 21 FAULTMASK, 22 CONTROL (profile).
use Rattle.std.specs.Prelude.{ℕ, ◌+◌, ◌-◌, ◌*◌, ◌/◌, ◌%◌, nat_lt, if◌then◌else◌, List, [], ◌∷◌, ◌++◌}
use Rattle.gdb_packets.specs.Digits.{two_digits}
use Rattle.gdb_texts.specs.Bytes.{byte_at}

-- the digits of a word
abbrev pub word_digits : ℕ → List ℕ
word_digits word =
    ((two_digits (word % 256) ++ two_digits (word / 0x100 % 256)) ++ two_digits (word / 0x1_0000 % 256))
    ++ two_digits (word / 0x100_0000)

-- the digits of all registers
unfoldable pub registers_text : List ℕ → List ℕ
registers_text [] = []
registers_text (value ∷ values) = word_digits value ++ registers_text values

-- word `index` of digits
unfoldable pub word_at : List ℕ → ℕ → ℕ
word_at digits index =
    byte_at digits (4 * index) + byte_at digits (4 * index + 1) * 0x100 + byte_at digits (4 * index + 2) * 0x1_0000
    + byte_at digits (4 * index + 3) * 0x100_0000

-- the register that G writes after `index` others: 16 to 22, then 0 to 15 (profile). So the stack pointer that SP
-- names is chosen first
abbrev pub written_register : ℕ → ℕ
written_register index = if nat_lt index 7 then 16 + index else index - 7
