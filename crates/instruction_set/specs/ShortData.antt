-- The rows of 16 bits in "Data processing" (ARM DDI 0403, "16-bit Thumb instruction encoding").
use Rattle.std.specs.Prelude.{ℕ, List, [], ◌∷◌, codes}
use Rattle.instruction_set.specs.declared.data_processing.DataProcessing.TheVariants.{MoveRegister, CompareRegister}
use Rattle.instruction_set.specs.declared.data_processing.DataProcessing.TheVariants.{ShiftByRegister, Multiply}
use Rattle.instruction_set.specs.declared.instruction.Decoded.{Decoded}
use Rattle.instruction_set.specs.declared.instruction.Instruction.TheVariants.{DataProcessing}
use Rattle.instruction_set.specs.declared.data_processing.Comparison.{Comparison}
use Rattle.instruction_set.specs.declared.data_processing.Comparison.TheVariants.{Test, Compare, CompareNegative}
use Rattle.instruction_set.specs.declared.data_processing.DataOperation.TheVariants.{And, BitClear, Or, ExclusiveOr}
use Rattle.instruction_set.specs.declared.data_processing.DataOperation.TheVariants.{AddWithCarry, SubtractWithCarry}
use Rattle.instruction_set.specs.declared.data_processing.DataOperation.TheVariants.{ReverseSubtract}
use Rattle.instruction_set.specs.declared.data_processing.FlagSetting.TheVariants as flags
use Rattle.instruction_set.specs.declared.data_processing.MoveOperation.TheVariants.{MoveNot}
use Rattle.instruction_set.specs.declared.shift.ShiftType.{ShiftType}
use Rattle.instruction_set.specs.declared.shift.ShiftType.TheVariants.{Lsl, Lsr, Asr, Ror}
use Rattle.instruction_set.specs.RowOperands.{unshifted}
use Rattle.instruction_set.specs.Rows.{Row, short, row}
use Rattle.instruction_set.specs.ShortShifts.{data_registers_row, data_number_row}

-- a shift by a register
unfoldable pub shift_register_row : ShiftType → ℕ → ℕ → Decoded
shift_register_row type d m =
    short (DataProcessing (ShiftByRegister (record {
      shift_type = type;
      flags = flags.OutsideBlock;
      destination = d;
      source = d;
      amount = m;
    })))

-- MVN of a register
unfoldable pub move_not_row : ℕ → ℕ → Decoded
move_not_row d m =
    short (DataProcessing (MoveRegister (record {
      operation = MoveNot;
      flags = flags.OutsideBlock;
      destination = d;
      source = unshifted m;
    })))

-- a comparison of two registers
unfoldable pub compare_registers_row : Comparison → ℕ → ℕ → Decoded
compare_registers_row operation n m =
    short (DataProcessing (CompareRegister (record { operation = operation; first = n; second = unshifted m })))

-- MUL: R[d] = R[m] * R[d]
unfoldable pub multiply_row : ℕ → ℕ → Decoded
multiply_row d m =
    short (DataProcessing (Multiply (record { flags = flags.OutsideBlock; destination = d; first = m; second = d })))

-- ---- the rows: opcodes 0000 to 0111, then 1000 to 1111

abbrev pub data_low_rows : List Row
data_low_rows =
    row (codes "010000 0000 mmm ddd") (λ f. data_registers_row And f.d f.d f.m) ∷  -- AND (register), T1
    row (codes "010000 0001 mmm ddd") (λ f. data_registers_row ExclusiveOr f.d f.d f.m) ∷  -- EOR (register), T1
    row (codes "010000 0010 mmm ddd") (λ f. shift_register_row Lsl f.d f.m) ∷  -- LSL (register), T1
    row (codes "010000 0011 mmm ddd") (λ f. shift_register_row Lsr f.d f.m) ∷  -- LSR (register), T1
    row (codes "010000 0100 mmm ddd") (λ f. shift_register_row Asr f.d f.m) ∷  -- ASR (register), T1
    row (codes "010000 0101 mmm ddd") (λ f. data_registers_row AddWithCarry f.d f.d f.m) ∷  -- ADC (register), T1
    row (codes "010000 0110 mmm ddd") (λ f. data_registers_row SubtractWithCarry f.d f.d f.m) ∷  -- SBC (register), T1
    row (codes "010000 0111 mmm ddd") (λ f. shift_register_row Ror f.d f.m) ∷  -- ROR (register), T1
    []

abbrev pub data_high_rows : List Row
data_high_rows =
    row (codes "010000 1000 mmm ddd") (λ f. compare_registers_row Test f.d f.m) ∷  -- TST (register), T1
    -- RSB (immediate), T1: 0 less the register
    row (codes "010000 1001 mmm ddd") (λ f. data_number_row ReverseSubtract f.d f.m 0) ∷
    row (codes "010000 1010 mmm ddd") (λ f. compare_registers_row Compare f.d f.m) ∷  -- CMP (register), T1
    row (codes "010000 1011 mmm ddd") (λ f. compare_registers_row CompareNegative f.d f.m) ∷  -- CMN (register), T1
    row (codes "010000 1100 mmm ddd") (λ f. data_registers_row Or f.d f.d f.m) ∷  -- ORR (register), T1
    row (codes "010000 1101 mmm ddd") (λ f. multiply_row f.d f.m) ∷  -- MUL, T1
    row (codes "010000 1110 mmm ddd") (λ f. data_registers_row BitClear f.d f.d f.m) ∷  -- BIC (register), T1
    row (codes "010000 1111 mmm ddd") (λ f. move_not_row f.d f.m) ∷  -- MVN (register), T1
    []
