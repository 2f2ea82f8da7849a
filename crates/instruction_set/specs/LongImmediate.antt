-- The rows of 32 bits in "Data processing (modified immediate)" (ARM DDI 0403, "32-bit Thumb instruction encoding"),
-- and which registers an operation allows.
use Rattle.std.specs.Prelude.{ℕ, ◌^◌, nat_lt, Bool, true, false, not, ◌&&◌, ◌||◌, ◌==◌, if◌then◌else◌, List, [], ◌∷◌}
use Rattle.std.specs.Prelude.{Option, Some, None, codes}
use Rattle.instruction_set.specs.declared.instruction.ItPosition.TheVariants as place
use Rattle.instruction_set.specs.declared.data_processing.DataProcessing.TheVariants.{DataImmediate, MoveImmediate}
use Rattle.instruction_set.specs.declared.data_processing.DataProcessing.TheVariants.{CompareImmediate}
use Rattle.instruction_set.specs.declared.instruction.Decoded.{Decoded}
use Rattle.instruction_set.specs.declared.instruction.Decoded.TheVariants.{Unpredictable}
use Rattle.instruction_set.specs.declared.instruction.Instruction.TheVariants.{DataProcessing}
use Rattle.instruction_set.specs.declared.data_processing.Comparison.{Comparison}
use Rattle.instruction_set.specs.declared.data_processing.Comparison.TheVariants.{Test, TestEquivalence, Compare}
use Rattle.instruction_set.specs.declared.data_processing.Comparison.TheVariants.{CompareNegative}
use Rattle.instruction_set.specs.declared.data_processing.DataOperation.{DataOperation}
use Rattle.instruction_set.specs.declared.data_processing.DataOperation.TheVariants.{And, BitClear, Or, OrNot}
use Rattle.instruction_set.specs.declared.data_processing.DataOperation.TheVariants.{ExclusiveOr}
use Rattle.instruction_set.specs.declared.data_processing.DataOperation.TheVariants.{Add, AddWithCarry}
use Rattle.instruction_set.specs.declared.data_processing.DataOperation.TheVariants.{SubtractWithCarry}
use Rattle.instruction_set.specs.declared.data_processing.DataOperation.TheVariants.{Subtract, ReverseSubtract}
use Rattle.instruction_set.specs.declared.data_processing.Immediate.{Immediate}
use Rattle.instruction_set.specs.declared.data_processing.MoveOperation.{MoveOperation}
use Rattle.instruction_set.specs.declared.data_processing.MoveOperation.TheVariants.{Move, MoveNot}
use Rattle.instruction_set.specs.declared.unpredictable.UnpredictableCase.TheVariants as cause
use Rattle.instruction_set.specs.Arithmetic.{expand_imm}
use Rattle.instruction_set.specs.RowOperands.{flags_if}
use Rattle.instruction_set.specs.Rows.{Row, long, unless, is_bad, row, row_but}

-- ---- which registers an operation allows

-- whether an operation takes SP as its first operand, and writes it: ADD and SUB do
abbrev pub takes_sp : DataOperation → Bool
takes_sp And = false
takes_sp BitClear = false
takes_sp Or = false
takes_sp OrNot = false
takes_sp ExclusiveOr = false
takes_sp Add = true
takes_sp AddWithCarry = false
takes_sp SubtractWithCarry = false
takes_sp Subtract = true
takes_sp ReverseSubtract = false

-- whether a comparison takes SP as its first operand: CMP and CMN do
abbrev pub compares_sp : Comparison → Bool
compares_sp Test = false
compares_sp TestEquivalence = false
compares_sp Compare = true
compares_sp CompareNegative = true

-- whether a first operand is refused: PC always, and SP where it isn't taken
abbrev pub is_refused_first : Bool → ℕ → Bool
is_refused_first sp n = n == 15 || n == 13 && not sp

-- whether a destination is refused: PC always, and SP unless `sp` is true and the first operand is SP
abbrev pub is_refused_destination : Bool → ℕ → ℕ → Bool
is_refused_destination sp n d = d == 15 || d == 13 && not (sp && n == 13)

-- ---- modified immediates

-- a modified immediate as an operand: its carry, which only logical operations and moves use, is bit 31 of the rotated
-- value; in the byte patterns it has none
abbrev pub operand_of : ℕ → Option (ℕ × Bool) → Option Immediate
operand_of imm12 None = None
operand_of imm12 (Some expanded) =
    Some (record { value = expanded.0; carry = if nat_lt imm12 (2 ^ 10) then None else Some expanded.1 })

-- ThumbExpandImm_C(imm12, ..), where it isn't UNPREDICTABLE
unfoldable pub modified_immediate : ℕ → Option Immediate
modified_immediate imm12 = operand_of imm12 (expand_imm imm12 false)

-- an operation on a register and a modified immediate, unless that is UNPREDICTABLE
abbrev pub data_expanded : DataOperation → Bool → ℕ → ℕ → Option Immediate → Decoded
data_expanded operation s n d None = Unpredictable place.Anywhere cause.Immediate
data_expanded operation s n d (Some second) =
    long (DataProcessing (DataImmediate (record {
      operation = operation;
      flags = flags_if s;
      destination = d;
      first = n;
      second = second;
    })))

-- the same, unless a register is refused
unfoldable pub data_immediate_row : DataOperation → Bool → ℕ → ℕ → Option Immediate → Decoded
data_immediate_row operation s n d second =
    unless (is_refused_first (takes_sp operation) n || is_refused_destination (takes_sp operation) n d) place.Anywhere
    cause.Registers (data_expanded operation s n d second)

-- a comparison of a register and a modified immediate, unless that is UNPREDICTABLE
abbrev pub compare_expanded : Comparison → ℕ → Option Immediate → Decoded
compare_expanded operation n None = Unpredictable place.Anywhere cause.Immediate
compare_expanded operation n (Some second) =
    long (DataProcessing (CompareImmediate (record { operation = operation; first = n; second = second })))

-- the same, unless a register is refused
unfoldable pub compare_immediate_row : Comparison → ℕ → Option Immediate → Decoded
compare_immediate_row operation n second =
    unless (is_refused_first (compares_sp operation) n) place.Anywhere cause.Registers
    (compare_expanded operation n second)

-- MOV and MVN of a modified immediate, unless that is UNPREDICTABLE
abbrev pub move_expanded : MoveOperation → Bool → ℕ → Option Immediate → Decoded
move_expanded operation s d None = Unpredictable place.Anywhere cause.Immediate
move_expanded operation s d (Some source) =
    long (DataProcessing (MoveImmediate
    (record { operation = operation; flags = flags_if s; destination = d; source = source })))

-- the same, unless a register is refused
unfoldable pub move_immediate_row : MoveOperation → Bool → ℕ → Option Immediate → Decoded
move_immediate_row operation s d source =
    unless (is_bad d) place.Anywhere cause.Registers (move_expanded operation s d source)

-- ---- the rows: logical operations, then sums

abbrev pub tst_immediate_t1 : Row
tst_immediate_t1 =
    row (codes "11110 i 0 0000 1 nnnn 0 iii 1111 iiiiiiii")
    (λ f. compare_immediate_row Test f.n (modified_immediate f.i))

-- AND (immediate), encoding T1; with S = 1 and d = 1111 it is TST
abbrev pub and_immediate_t1 : Row
and_immediate_t1 =
    row_but (codes "11110 i 0 0000 S nnnn 0 iii dddd iiiiiiii")
    (codes "xxxxx x x xxxx 1 xxxx x xxx 1111 xxxxxxxx" ∷ [])
    (λ f. data_immediate_row And (f.S == 1) f.n f.d (modified_immediate f.i))

abbrev pub bic_immediate_t1 : Row
bic_immediate_t1 =
    row (codes "11110 i 0 0001 S nnnn 0 iii dddd iiiiiiii")
    (λ f. data_immediate_row BitClear (f.S == 1) f.n f.d (modified_immediate f.i))

abbrev pub mov_immediate_t2 : Row
mov_immediate_t2 =
    row (codes "11110 i 0 0010 S 1111 0 iii dddd iiiiiiii")
    (λ f. move_immediate_row Move (f.S == 1) f.d (modified_immediate f.i))

-- ORR (immediate), encoding T1; with n = 1111 it is MOV
abbrev pub orr_immediate_t1 : Row
orr_immediate_t1 =
    row_but (codes "11110 i 0 0010 S nnnn 0 iii dddd iiiiiiii")
    (codes "xxxxx x x xxxx x 1111 x xxx xxxx xxxxxxxx" ∷ [])
    (λ f. data_immediate_row Or (f.S == 1) f.n f.d (modified_immediate f.i))

abbrev pub mvn_immediate_t1 : Row
mvn_immediate_t1 =
    row (codes "11110 i 0 0011 S 1111 0 iii dddd iiiiiiii")
    (λ f. move_immediate_row MoveNot (f.S == 1) f.d (modified_immediate f.i))

-- ORN (immediate), encoding T1; with n = 1111 it is MVN
abbrev pub orn_immediate_t1 : Row
orn_immediate_t1 =
    row_but (codes "11110 i 0 0011 S nnnn 0 iii dddd iiiiiiii")
    (codes "xxxxx x x xxxx x 1111 x xxx xxxx xxxxxxxx" ∷ [])
    (λ f. data_immediate_row OrNot (f.S == 1) f.n f.d (modified_immediate f.i))

abbrev pub teq_immediate_t1 : Row
teq_immediate_t1 =
    row (codes "11110 i 0 0100 1 nnnn 0 iii 1111 iiiiiiii")
    (λ f. compare_immediate_row TestEquivalence f.n (modified_immediate f.i))

-- EOR (immediate), encoding T1; with S = 1 and d = 1111 it is TEQ
abbrev pub eor_immediate_t1 : Row
eor_immediate_t1 =
    row_but (codes "11110 i 0 0100 S nnnn 0 iii dddd iiiiiiii")
    (codes "xxxxx x x xxxx 1 xxxx x xxx 1111 xxxxxxxx" ∷ [])
    (λ f. data_immediate_row ExclusiveOr (f.S == 1) f.n f.d (modified_immediate f.i))

abbrev pub logical_immediate_rows : List Row
logical_immediate_rows =
    tst_immediate_t1 ∷ and_immediate_t1 ∷ bic_immediate_t1 ∷ mov_immediate_t2 ∷ orr_immediate_t1 ∷ mvn_immediate_t1 ∷
    orn_immediate_t1 ∷ teq_immediate_t1 ∷ eor_immediate_t1 ∷ []

abbrev pub cmn_immediate_t1 : Row
cmn_immediate_t1 =
    row (codes "11110 i 0 1000 1 nnnn 0 iii 1111 iiiiiiii")
    (λ f. compare_immediate_row CompareNegative f.n (modified_immediate f.i))

-- ADD (immediate), encoding T3; with S = 1 and d = 1111 it is CMN
abbrev pub add_immediate_t3 : Row
add_immediate_t3 =
    row_but (codes "11110 i 0 1000 S nnnn 0 iii dddd iiiiiiii")
    (codes "xxxxx x x xxxx 1 xxxx x xxx 1111 xxxxxxxx" ∷ [])
    (λ f. data_immediate_row Add (f.S == 1) f.n f.d (modified_immediate f.i))

abbrev pub adc_immediate_t1 : Row
adc_immediate_t1 =
    row (codes "11110 i 0 1010 S nnnn 0 iii dddd iiiiiiii")
    (λ f. data_immediate_row AddWithCarry (f.S == 1) f.n f.d (modified_immediate f.i))

abbrev pub sbc_immediate_t1 : Row
sbc_immediate_t1 =
    row (codes "11110 i 0 1011 S nnnn 0 iii dddd iiiiiiii")
    (λ f. data_immediate_row SubtractWithCarry (f.S == 1) f.n f.d (modified_immediate f.i))

abbrev pub cmp_immediate_t2 : Row
cmp_immediate_t2 =
    row (codes "11110 i 0 1101 1 nnnn 0 iii 1111 iiiiiiii")
    (λ f. compare_immediate_row Compare f.n (modified_immediate f.i))

-- SUB (immediate), encoding T3; with S = 1 and d = 1111 it is CMP
abbrev pub sub_immediate_t3 : Row
sub_immediate_t3 =
    row_but (codes "11110 i 0 1101 S nnnn 0 iii dddd iiiiiiii")
    (codes "xxxxx x x xxxx 1 xxxx x xxx 1111 xxxxxxxx" ∷ [])
    (λ f. data_immediate_row Subtract (f.S == 1) f.n f.d (modified_immediate f.i))

abbrev pub rsb_immediate_t2 : Row
rsb_immediate_t2 =
    row (codes "11110 i 0 1110 S nnnn 0 iii dddd iiiiiiii")
    (λ f. data_immediate_row ReverseSubtract (f.S == 1) f.n f.d (modified_immediate f.i))

abbrev pub sum_immediate_rows : List Row
sum_immediate_rows =
    cmn_immediate_t1 ∷ add_immediate_t3 ∷ adc_immediate_t1 ∷ sbc_immediate_t1 ∷ cmp_immediate_t2 ∷ sub_immediate_t3 ∷
    rsb_immediate_t2 ∷ []
