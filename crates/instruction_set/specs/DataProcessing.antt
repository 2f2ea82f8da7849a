-- The instructions that compute (ARM DDI 0403, "Alphabetical list of ARMv7-M Thumb instructions", the operation of
-- each): operations on two operands, comparisons, moves, shifts by a register and ADR. Multiplication and division are
-- in `Products`, saturation, bit fields and extension in `Fields`. The end says which registers each leaves. Unless one
-- writes the PC, it stays at the instruction: `data_processing_effect` of `Operations` moves it on.
use Rattle.std.specs.Prelude.{ℕ, ◌+◌, ◌-◌, ◌*◌, ◌/◌, ◌%◌, ◌^◌, Bool, true, false, ◌==◌, bit_and, bit_or, bit_xor}
use Rattle.instruction_set.specs.declared.data_processing.Address.{Address}
use Rattle.instruction_set.specs.declared.data_processing.CompareImmediate.{CompareImmediate}
use Rattle.instruction_set.specs.declared.data_processing.CompareRegister.{CompareRegister}
use Rattle.instruction_set.specs.declared.data_processing.Comparison.{Comparison}
use Rattle.instruction_set.specs.declared.data_processing.Comparison.TheVariants.{Test, TestEquivalence, Compare}
use Rattle.instruction_set.specs.declared.data_processing.Comparison.TheVariants.{CompareNegative}
use Rattle.instruction_set.specs.declared.data_processing.DataImmediate.{DataImmediate}
use Rattle.instruction_set.specs.declared.data_processing.DataOperation.{DataOperation}
use Rattle.instruction_set.specs.declared.data_processing.DataOperation.TheVariants.{And, BitClear, Or, OrNot}
use Rattle.instruction_set.specs.declared.data_processing.DataOperation.TheVariants.{ExclusiveOr}
use Rattle.instruction_set.specs.declared.data_processing.DataOperation.TheVariants.{Add, AddWithCarry}
use Rattle.instruction_set.specs.declared.data_processing.DataOperation.TheVariants.{SubtractWithCarry}
use Rattle.instruction_set.specs.declared.data_processing.DataOperation.TheVariants.{Subtract, ReverseSubtract}
use Rattle.instruction_set.specs.declared.data_processing.DataProcessing.{DataProcessing}
use Rattle.instruction_set.specs.declared.data_processing.DataProcessing.TheVariants as processing
use Rattle.instruction_set.specs.declared.data_processing.DataRegister.{DataRegister}
use Rattle.instruction_set.specs.declared.data_processing.Immediate.{Immediate}
use Rattle.instruction_set.specs.declared.data_processing.MoveImmediate.{MoveImmediate}
use Rattle.instruction_set.specs.declared.data_processing.MoveOperation.{MoveOperation}
use Rattle.instruction_set.specs.declared.data_processing.MoveOperation.TheVariants.{Move, MoveNot}
use Rattle.instruction_set.specs.declared.data_processing.MoveRegister.{MoveRegister}
use Rattle.instruction_set.specs.declared.data_processing.MoveTop.{MoveTop}
use Rattle.instruction_set.specs.declared.data_processing.ShiftByRegister.{ShiftByRegister}
use Rattle.instruction_set.specs.declared.data_processing.ShiftedRegister.{ShiftedRegister}
use Rattle.instruction_set.specs.declared.registers.Flags.{Flags}
use Rattle.instruction_set.specs.Arithmetic.{add_with_carry, shift_c}
use Rattle.instruction_set.specs.Fields.{saturate, extract_field, insert_field, clear_field, extend, rearrange}
use Rattle.instruction_set.specs.Products.{multiply, multiply_accumulate, multiply_long, divide}
use Rattle.instruction_set.specs.Registers.{Registers, register, with_register}
use Rattle.instruction_set.specs.Results.{logical, summed, written, immediate_carry, shifted}
use Rattle.instruction_set.specs.Words.{word_sum}

-- ---- two operands

-- NOT(x): the word with each bit inverted
abbrev pub inverted : ℕ → ℕ
inverted x = 2 ^ 32 - 1 - x

-- the result of an operation on x and y, and the flags after it; carry is the shifter's, used by logical operations
-- alone
unfoldable pub computed : DataOperation → ℕ → ℕ → Bool → Flags → ℕ × Flags
computed And x y carry f = logical f (bit_and x y) carry
computed BitClear x y carry f = logical f (bit_and x (inverted y)) carry
computed Or x y carry f = logical f (bit_or x y) carry
computed OrNot x y carry f = logical f (bit_or x (inverted y)) carry
computed ExclusiveOr x y carry f = logical f (bit_xor x y) carry
computed Add x y carry f = summed f (add_with_carry x y false)
computed AddWithCarry x y carry f = summed f (add_with_carry x y f.carry)
computed SubtractWithCarry x y carry f = summed f (add_with_carry x (inverted y) f.carry)
computed Subtract x y carry f = summed f (add_with_carry x (inverted y) true)
computed ReverseSubtract x y carry f = summed f (add_with_carry (inverted x) y true)

-- of a register and a number
abbrev pub with_immediate : DataOperation → ℕ → Immediate → Registers → ℕ × Flags
with_immediate operation n second r =
    computed operation (register r n) second.value (immediate_carry second r.flags) r.flags

-- of a register and a shifted one
abbrev pub with_shifted : DataOperation → ℕ → ShiftedRegister → Registers → ℕ × Flags
with_shifted operation n second r =
    computed operation (register r n) (shifted second r).0 (shifted second r).1 r.flags

-- AND, BIC, ORR, ORN, EOR, ADD, ADC, SBC, SUB and RSB (immediate)
abbrev pub data_immediate : DataImmediate → Registers → Registers
data_immediate o r = written o.flags o.destination (with_immediate o.operation o.first o.second r) r

-- the same (register)
abbrev pub data_register : DataRegister → Registers → Registers
data_register o r = written o.flags o.destination (with_shifted o.operation o.first o.second r) r

-- ---- comparisons

-- the operation whose flags a comparison sets
abbrev pub compared_by : Comparison → DataOperation
compared_by Test = And
compared_by TestEquivalence = ExclusiveOr
compared_by Compare = Subtract
compared_by CompareNegative = Add

-- TST, TEQ, CMP and CMN (immediate): the flags alone
abbrev pub compare_immediate : CompareImmediate → Registers → Registers
compare_immediate o r = record r { flags = (with_immediate (compared_by o.operation) o.first o.second r).1 }

-- the same (register)
abbrev pub compare_register : CompareRegister → Registers → Registers
compare_register o r = record r { flags = (with_shifted (compared_by o.operation) o.first o.second r).1 }

-- ---- moves

-- the operand, or NOT of it
abbrev pub moved_value : MoveOperation → ℕ → ℕ
moved_value Move x = x
moved_value MoveNot x = inverted x

-- MOV and MVN (immediate)
abbrev pub move_immediate : MoveImmediate → Registers → Registers
move_immediate o r =
    written o.flags o.destination
    (logical r.flags (moved_value o.operation o.source.value) (immediate_carry o.source r.flags)) r

-- MOV and MVN (register); LSL, LSR, ASR and ROR (immediate), and RRX
abbrev pub move_register : MoveRegister → Registers → Registers
move_register o r =
    written o.flags o.destination
    (logical r.flags (moved_value o.operation (shifted o.source r).0) (shifted o.source r).1) r

-- MOVT: R[d]<31:16> = imm16, and R[d]<15:0> stays
abbrev pub move_top : MoveTop → Registers → Registers
move_top o r = with_register r o.destination (o.value * 2 ^ 16 + register r o.destination % 2 ^ 16)

-- ---- shifts by a register

-- Shift_C(R[n], type, R[m]<7:0>, APSR.C)
abbrev pub shifted_by_register : ShiftByRegister → Registers → ℕ × Bool
shifted_by_register o r = shift_c (register r o.source) o.shift_type (register r o.amount % 2 ^ 8) r.flags.carry

-- LSL, LSR, ASR and ROR (register)
abbrev pub shift_by_register : ShiftByRegister → Registers → Registers
shift_by_register o r =
    written o.flags o.destination (logical r.flags (shifted_by_register o r).0 (shifted_by_register o r).1) r

-- ---- addresses

-- Align(PC, 4)
abbrev pub aligned_pc : Registers → ℕ
aligned_pc r = register r 15 / 4 * 4

-- ADR: Align(PC, 4) and the offset
abbrev pub address : Address → Registers → Registers
address o r = with_register r o.destination (word_sum (aligned_pc r) o.offset)

-- ---- every instruction that computes

-- the registers that an instruction leaves, with the PC at the instruction unless it writes the PC
unfoldable pub processed : DataProcessing → Registers → Registers
processed (processing.DataImmediate o) r = data_immediate o r
processed (processing.DataRegister o) r = data_register o r
processed (processing.MoveImmediate o) r = move_immediate o r
processed (processing.MoveRegister o) r = move_register o r
processed (processing.MoveTop o) r = move_top o r
processed (processing.CompareImmediate o) r = compare_immediate o r
processed (processing.CompareRegister o) r = compare_register o r
processed (processing.ShiftByRegister o) r = shift_by_register o r
processed (processing.Address o) r = address o r
processed (processing.Multiply o) r = multiply o r
processed (processing.MultiplyAccumulate o) r = multiply_accumulate o r
processed (processing.MultiplyLong o) r = multiply_long o r
processed (processing.Divide o) r = divide o r
processed (processing.Saturate o) r = saturate o r
processed (processing.ExtractField o) r = extract_field o r
processed (processing.InsertField o) r = insert_field o r
processed (processing.ClearField o) r = clear_field o r
processed (processing.Extend o) r = extend o r
processed (processing.Rearrange o) r = rearrange o r

-- whether an instruction writes the PC, which is a branch: ADD and MOV of registers may
unfoldable pub writes_pc : DataProcessing → Bool
writes_pc (processing.DataImmediate o) = false
writes_pc (processing.DataRegister o) = o.destination == 15
writes_pc (processing.MoveImmediate o) = false
writes_pc (processing.MoveRegister o) = o.destination == 15
writes_pc (processing.MoveTop o) = false
writes_pc (processing.CompareImmediate o) = false
writes_pc (processing.CompareRegister o) = false
writes_pc (processing.ShiftByRegister o) = false
writes_pc (processing.Address o) = false
writes_pc (processing.Multiply o) = false
writes_pc (processing.MultiplyAccumulate o) = false
writes_pc (processing.MultiplyLong o) = false
writes_pc (processing.Divide o) = false
writes_pc (processing.Saturate o) = false
writes_pc (processing.ExtractField o) = false
writes_pc (processing.InsertField o) = false
writes_pc (processing.ClearField o) = false
writes_pc (processing.Extend o) = false
writes_pc (processing.Rearrange o) = false

-- whether an instruction divides by zero
unfoldable pub divides_by_zero : DataProcessing → Registers → Bool
divides_by_zero (processing.DataImmediate o) r = false
divides_by_zero (processing.DataRegister o) r = false
divides_by_zero (processing.MoveImmediate o) r = false
divides_by_zero (processing.MoveRegister o) r = false
divides_by_zero (processing.MoveTop o) r = false
divides_by_zero (processing.CompareImmediate o) r = false
divides_by_zero (processing.CompareRegister o) r = false
divides_by_zero (processing.ShiftByRegister o) r = false
divides_by_zero (processing.Address o) r = false
divides_by_zero (processing.Multiply o) r = false
divides_by_zero (processing.MultiplyAccumulate o) r = false
divides_by_zero (processing.MultiplyLong o) r = false
divides_by_zero (processing.Divide o) r = register r o.divisor == 0
divides_by_zero (processing.Saturate o) r = false
divides_by_zero (processing.ExtractField o) r = false
divides_by_zero (processing.InsertField o) r = false
divides_by_zero (processing.ClearField o) r = false
divides_by_zero (processing.Extend o) r = false
divides_by_zero (processing.Rearrange o) r = false
