-- How many bytes an access moves, and how many an instruction has.
use Rattle.std.specs.Prelude.{ℕ, Bool, true, false}
use Rattle.instruction_set.specs.declared.instruction.InstructionLength.{InstructionLength}
use Rattle.instruction_set.specs.declared.instruction.InstructionLength.TheVariants.{Short, Long}
use Rattle.instruction_set.specs.declared.size.Size.{Size}
use Rattle.instruction_set.specs.declared.size.Size.TheVariants.{Byte, Halfword, Word}

-- how many bytes an access moves
abbrev pub bytes_in : Size → ℕ
bytes_in Byte = 1
bytes_in Halfword = 2
bytes_in Word = 4

abbrev pub is_word : Size → Bool
is_word Byte = false
is_word Halfword = false
is_word Word = true

-- the bytes of an instruction
abbrev pub instruction_bytes : InstructionLength → ℕ
instruction_bytes Short = 2
instruction_bytes Long = 4
