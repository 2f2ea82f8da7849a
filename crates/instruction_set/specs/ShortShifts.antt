-- The rows of 16 bits in "Shift (immediate), add, subtract, move, and compare" (ARM DDI 0403, "16-bit Thumb instruction
-- encoding").
use Rattle.std.specs.Prelude.{ℕ, List, [], ◌∷◌, codes}
use Rattle.instruction_set.specs.declared.instruction.ItPosition.TheVariants as place
use Rattle.instruction_set.specs.declared.data_processing.DataProcessing.TheVariants.{DataImmediate, DataRegister}
use Rattle.instruction_set.specs.declared.data_processing.DataProcessing.TheVariants.{MoveImmediate, MoveRegister}
use Rattle.instruction_set.specs.declared.data_processing.DataProcessing.TheVariants.{CompareImmediate}
use Rattle.instruction_set.specs.declared.instruction.Decoded.{Decoded}
use Rattle.instruction_set.specs.declared.instruction.Instruction.TheVariants.{DataProcessing}
use Rattle.instruction_set.specs.declared.instruction.InstructionLength.TheVariants.{Short}
use Rattle.instruction_set.specs.declared.data_processing.Comparison.TheVariants.{Compare}
use Rattle.instruction_set.specs.declared.data_processing.DataOperation.{DataOperation}
use Rattle.instruction_set.specs.declared.data_processing.DataOperation.TheVariants.{Add, Subtract}
use Rattle.instruction_set.specs.declared.data_processing.FlagSetting.TheVariants as flags
use Rattle.instruction_set.specs.declared.data_processing.MoveOperation.TheVariants.{Move}
use Rattle.instruction_set.specs.Arithmetic.{decode_imm_shift}
use Rattle.instruction_set.specs.RowOperands.{unshifted, plain_immediate}
use Rattle.instruction_set.specs.Rows.{Row, short, placed, row, row_but}

-- MOV of a low register, which sets N and Z always
unfoldable pub move_low_row : ℕ → ℕ → Decoded
move_low_row d m =
    placed Short place.Never
    (DataProcessing (MoveRegister (record {
      operation = Move;
      flags = flags.Always;
      destination = d;
      source = unshifted m;
    })))

-- a shift by a number: MOV of a shifted register
unfoldable pub shift_number_row : ℕ → ℕ → ℕ → ℕ → Decoded
shift_number_row type imm5 d m =
    short (DataProcessing (MoveRegister (record {
      operation = Move;
      flags = flags.OutsideBlock;
      destination = d;
      source = record { register = m; shift = decode_imm_shift type imm5 };
    })))

-- an operation on two registers
unfoldable pub data_registers_row : DataOperation → ℕ → ℕ → ℕ → Decoded
data_registers_row operation d n m =
    short (DataProcessing (DataRegister (record {
      operation = operation;
      flags = flags.OutsideBlock;
      destination = d;
      first = n;
      second = unshifted m;
    })))

-- an operation on a register and a number
unfoldable pub data_number_row : DataOperation → ℕ → ℕ → ℕ → Decoded
data_number_row operation d n value =
    short (DataProcessing (DataImmediate (record {
      operation = operation;
      flags = flags.OutsideBlock;
      destination = d;
      first = n;
      second = plain_immediate value;
    })))

-- MOV of a number
unfoldable pub move_number_row : ℕ → ℕ → Decoded
move_number_row d value =
    short (DataProcessing (MoveImmediate
    (record { operation = Move; flags = flags.OutsideBlock; destination = d; source = plain_immediate value })))

-- CMP with a number
unfoldable pub compare_number_row : ℕ → ℕ → Decoded
compare_number_row n value =
    short (DataProcessing (CompareImmediate (record {
      operation = Compare;
      first = n;
      second = plain_immediate value;
    })))

-- ---- the rows

-- MOV (register), encoding T2: LSL (immediate) by 0, which sets flags and may not be in an IT block
abbrev pub mov_register_t2 : Row
mov_register_t2 = row (codes "000 00 00000 mmm ddd") (λ f. move_low_row f.d f.m)

-- LSL (immediate), encoding T1; by 00000 it is MOV
abbrev pub lsl_immediate_t1 : Row
lsl_immediate_t1 =
    row_but (codes "000 00 iiiii mmm ddd")
    (codes "xxx xx 00000 xxx xxx" ∷ [])
    (λ f. shift_number_row 0 f.i f.d f.m)

abbrev pub shifts_and_moves : List Row
shifts_and_moves =
    mov_register_t2 ∷ lsl_immediate_t1 ∷
    row (codes "000 01 iiiii mmm ddd") (λ f. shift_number_row 1 f.i f.d f.m) ∷  -- LSR (immediate), T1
    row (codes "000 10 iiiii mmm ddd") (λ f. shift_number_row 2 f.i f.d f.m) ∷  -- ASR (immediate), T1
    row (codes "000 11 0 0 mmm nnn ddd") (λ f. data_registers_row Add f.d f.n f.m) ∷  -- ADD (register), T1
    row (codes "000 11 0 1 mmm nnn ddd") (λ f. data_registers_row Subtract f.d f.n f.m) ∷  -- SUB (register), T1
    row (codes "000 11 1 0 iii nnn ddd") (λ f. data_number_row Add f.d f.n f.i) ∷  -- ADD (immediate), T1
    row (codes "000 11 1 1 iii nnn ddd") (λ f. data_number_row Subtract f.d f.n f.i) ∷  -- SUB (immediate), T1
    row (codes "001 00 ddd iiiiiiii") (λ f. move_number_row f.d f.i) ∷  -- MOV (immediate), T1
    row (codes "001 01 nnn iiiiiiii") (λ f. compare_number_row f.n f.i) ∷  -- CMP (immediate), T1
    row (codes "001 10 ddd iiiiiiii") (λ f. data_number_row Add f.d f.d f.i) ∷  -- ADD (immediate), T2
    row (codes "001 11 ddd iiiiiiii") (λ f. data_number_row Subtract f.d f.d f.i) ∷  -- SUB (immediate), T2
    []
