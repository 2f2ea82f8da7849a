-- What the instructions that compute have in common: the second operand and its carry, the flags after a result, and
-- the write of a result to its register (ARM DDI 0403, "Alphabetical list of ARMv7-M Thumb instructions", the operation
-- of each). The PC stays at the instruction, unless it is the destination.
use Rattle.std.specs.Prelude.{ℕ, Bool, false, true, not, if◌then◌else◌}
use Rattle.std.specs.Option.{unwrap_or}
use Rattle.instruction_set.specs.declared.data_processing.FlagSetting.{FlagSetting}
use Rattle.instruction_set.specs.declared.data_processing.FlagSetting.TheVariants.{Never, OutsideBlock, Always}
use Rattle.instruction_set.specs.declared.data_processing.Immediate.{Immediate}
use Rattle.instruction_set.specs.declared.data_processing.ShiftedRegister.{ShiftedRegister}
use Rattle.instruction_set.specs.declared.registers.Flags.{Flags}
use Rattle.instruction_set.specs.Arithmetic.{shift_c, in_it_block}
use Rattle.instruction_set.specs.Registers.{Registers, register, with_register, with_result}

-- ---- operands

-- the carry of an immediate: C, unchanged, where its expansion has none
abbrev pub immediate_carry : Immediate → Flags → Bool
immediate_carry immediate f = unwrap_or immediate.carry f.carry

-- the shifted register and its carry: Shift_C(R[m], shift_t, shift_n, APSR.C)
abbrev pub shifted : ShiftedRegister → Registers → ℕ × Bool
shifted s r = shift_c (register r s.register) s.shift.shift_type s.shift.amount r.flags.carry

-- ---- flags and results

-- whether an instruction sets flags: setflags
abbrev pub sets_flags : FlagSetting → Registers → Bool
sets_flags Never r = false
sets_flags OutsideBlock r = not (in_it_block r.it_state)
sets_flags Always r = true

-- the flags after a logical result: N and Z of it, and C of the shifter; V stays
abbrev pub logical_flags : Flags → ℕ → Bool → Flags
logical_flags f result carry = record (with_result f result) { carry = carry }

-- a logical result and its flags
abbrev pub logical : Flags → ℕ → Bool → ℕ × Flags
logical f result carry = (result, logical_flags f result carry)

-- the flags after a sum: N, Z, C and V
abbrev pub sum_flags : Flags → ℕ × Bool × Bool → Flags
sum_flags f sum = record (with_result f sum.0) { carry = sum.1; overflow = sum.2 }

-- a sum and its flags
abbrev pub summed : Flags → ℕ × Bool × Bool → ℕ × Flags
summed f sum = (sum.0, sum_flags f sum)

-- R[d] = result; and where the instruction sets flags, they are those of the result
abbrev pub written : FlagSetting → ℕ → ℕ × Flags → Registers → Registers
written setting d given r =
    if sets_flags setting r
    then record (with_register r d given.0) { flags = given.1 }
    else with_register r d given.0
