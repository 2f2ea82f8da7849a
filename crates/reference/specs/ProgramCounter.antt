-- How the PC goes on after an instruction (ARM DDI 0403, BranchWritePC(), BXWritePC(), BLXWritePC() and LoadWritePC()).
use Rattle.std.specs.Prelude.{ℕ, ◌/◌, ◌^◌, Bool, ◌&&◌, ◌==◌, if◌then◌else◌}
use Rattle.instruction_set.specs.declared.instruction.InstructionLength.{InstructionLength}
use Rattle.instruction_set.specs.Arithmetic.{it_advance}
use Rattle.instruction_set.specs.Registers.{Registers, register, with_register, with_pc, with_exchange, is_handler}
use Rattle.instruction_set.specs.Sizes.{instruction_bytes}
use Rattle.instruction_set.specs.Words.{word_sum}
use Rattle.reference.specs.declared.ending.Ending.{Ending}
use Rattle.reference.specs.declared.ending.Ending.TheVariants.{Next, ExceptionReturn}

-- ---- the end of an instruction

-- the registers that an instruction leaves, and what else it does
pub record Finished : Type 0 where
  pub registers : Registers
  pub ending : Ending

-- ITAdvance()
abbrev pub advanced : Registers → Registers
advanced r = record r { it_state = it_advance r.it_state }

-- the PC goes on by the length of the instruction
abbrev pub advances : InstructionLength → Registers → Finished
advances length r =
    record { registers = record (advanced r) { pc = word_sum r.pc (instruction_bytes length) }; ending = Next }

-- the PC was written
abbrev pub branches : Registers → Finished
branches r = record { registers = advanced r; ending = Next }

-- ---- writes of the PC

-- a branch by an offset to PC: BranchWritePC(PC + imm32)
abbrev pub branches_by : ℕ → Registers → Finished
branches_by offset r = branches (with_pc r (word_sum (register r 15) offset))

-- in Handler mode a value whose bits 31:28 are all ones returns from the exception
abbrev pub is_exception_return : ℕ → Registers → Bool
is_exception_return v r = is_handler r && (v / 2 ^ 28 == 15)

-- BXWritePC(v) and LoadWritePC(v): a return from an exception writes neither PC nor T, and doesn't advance IT
abbrev pub exchanges : ℕ → Registers → Finished
exchanges v r =
    if is_exception_return v r
    then record { registers = r; ending = ExceptionReturn v }
    else branches (with_exchange r v)

-- R[t] = value, which for the PC is LoadWritePC(value)
abbrev pub loads_into : InstructionLength → ℕ → ℕ → Registers → Finished
loads_into length t value r = if t == 15 then exchanges value r else advances length (with_register r t value)
