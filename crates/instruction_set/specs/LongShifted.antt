-- The rows of 32 bits in "Data processing (shifted register)" (ARM DDI 0403, "32-bit Thumb instruction encoding").
use Rattle.std.specs.Prelude.{ℕ, nat_lt, Bool, true, false, not, ◌&&◌, ◌||◌, ◌==◌, if◌then◌else◌, List, [], ◌∷◌, codes}
use Rattle.instruction_set.specs.declared.instruction.ItPosition.TheVariants as place
use Rattle.instruction_set.specs.declared.data_processing.DataProcessing.TheVariants.{DataRegister, MoveRegister}
use Rattle.instruction_set.specs.declared.data_processing.DataProcessing.TheVariants.{CompareRegister}
use Rattle.instruction_set.specs.declared.instruction.Decoded.{Decoded}
use Rattle.instruction_set.specs.declared.instruction.Instruction.TheVariants.{DataProcessing}
use Rattle.instruction_set.specs.declared.data_processing.Comparison.{Comparison}
use Rattle.instruction_set.specs.declared.data_processing.Comparison.TheVariants.{Test, TestEquivalence, Compare}
use Rattle.instruction_set.specs.declared.data_processing.Comparison.TheVariants.{CompareNegative}
use Rattle.instruction_set.specs.declared.data_processing.DataOperation.{DataOperation}
use Rattle.instruction_set.specs.declared.data_processing.DataOperation.TheVariants.{And, BitClear, Or, OrNot}
use Rattle.instruction_set.specs.declared.data_processing.DataOperation.TheVariants.{ExclusiveOr}
use Rattle.instruction_set.specs.declared.data_processing.DataOperation.TheVariants.{Add, AddWithCarry}
use Rattle.instruction_set.specs.declared.data_processing.DataOperation.TheVariants.{SubtractWithCarry}
use Rattle.instruction_set.specs.declared.data_processing.DataOperation.TheVariants.{Subtract, ReverseSubtract}
use Rattle.instruction_set.specs.declared.data_processing.MoveOperation.TheVariants.{Move, MoveNot}
use Rattle.instruction_set.specs.declared.data_processing.ShiftedRegister.{ShiftedRegister}
use Rattle.instruction_set.specs.declared.shift.Shift.{Shift}
use Rattle.instruction_set.specs.declared.shift.ShiftType.{ShiftType}
use Rattle.instruction_set.specs.declared.shift.ShiftType.TheVariants.{Lsl, Lsr, Asr, Ror, Rrx}
use Rattle.instruction_set.specs.declared.unpredictable.UnpredictableCase.TheVariants as cause
use Rattle.instruction_set.specs.LongImmediate.{takes_sp, compares_sp, is_refused_first, is_refused_destination}
use Rattle.instruction_set.specs.RowOperands.{flags_if, shifted_by_number}
use Rattle.instruction_set.specs.Rows.{Row, long, unless, is_bad, row, row_but}

-- whether a type of shift is LSL
abbrev pub is_lsl : ShiftType → Bool
is_lsl Lsl = true
is_lsl Lsr = false
is_lsl Asr = false
is_lsl Ror = false
is_lsl Rrx = false

-- whether a shift is LSL by less than `bound`
abbrev pub is_lsl_below : Shift → ℕ → Bool
is_lsl_below shift bound = is_lsl shift.shift_type && nat_lt shift.amount bound

-- an operation on two registers, the second shifted; ADD and SUB may write SP only if the first operand is SP and the
-- shift is LSL by at most 3
unfoldable pub data_shifted_row : DataOperation → Bool → ℕ → ℕ → ShiftedRegister → Decoded
data_shifted_row operation s n d second =
    unless
    (is_bad second.register || (is_refused_first (takes_sp operation) n
    || is_refused_destination (takes_sp operation && is_lsl_below second.shift 4) n d))
    place.Anywhere cause.Registers
    (long (DataProcessing (DataRegister (record {
      operation = operation;
      flags = flags_if s;
      destination = d;
      first = n;
      second = second;
    }))))

-- a comparison of two registers, the second shifted
unfoldable pub compare_shifted_row : Comparison → ℕ → ShiftedRegister → Decoded
compare_shifted_row operation n second =
    unless (is_bad second.register || is_refused_first (compares_sp operation) n) place.Anywhere cause.Registers
    (long (DataProcessing (CompareRegister (record { operation = operation; first = n; second = second }))))

-- whether a MOV refuses its registers: without S and without a shift MOV may read SP or write SP, but not both
abbrev pub is_refused_move : Bool → ℕ → ShiftedRegister → Bool
is_refused_move s d source =
    if not s && is_lsl_below source.shift 1
    then d == 15 || (source.register == 15 || d == 13 && source.register == 13)
    else is_bad d || is_bad source.register

-- MOV of a shifted register
unfoldable pub move_shifted_row : Bool → ℕ → ShiftedRegister → Decoded
move_shifted_row s d source =
    unless (is_refused_move s d source) place.Anywhere cause.Registers
    (long (DataProcessing (MoveRegister
    (record { operation = Move; flags = flags_if s; destination = d; source = source }))))

-- MVN of a shifted register
unfoldable pub move_not_shifted_row : Bool → ℕ → ShiftedRegister → Decoded
move_not_shifted_row s d source =
    unless (is_bad d || is_bad source.register) place.Anywhere cause.Registers
    (long (DataProcessing (MoveRegister
    (record { operation = MoveNot; flags = flags_if s; destination = d; source = source }))))

-- ---- the rows: logical operations, then sums

abbrev pub tst_register_t2 : Row
tst_register_t2 =
    row (codes "1110101 0000 1 nnnn z iii 1111 ii tt mmmm")
    (λ f. compare_shifted_row Test f.n (shifted_by_number f.m f.t f.i))

-- AND (register), encoding T2; with S = 1 and d = 1111 it is TST
abbrev pub and_register_t2 : Row
and_register_t2 =
    row_but (codes "1110101 0000 S nnnn z iii dddd ii tt mmmm")
    (codes "xxxxxxx xxxx 1 xxxx x xxx 1111 xx xx xxxx" ∷ [])
    (λ f. data_shifted_row And (f.S == 1) f.n f.d (shifted_by_number f.m f.t f.i))

abbrev pub bic_register_t2 : Row
bic_register_t2 =
    row (codes "1110101 0001 S nnnn z iii dddd ii tt mmmm")
    (λ f. data_shifted_row BitClear (f.S == 1) f.n f.d (shifted_by_number f.m f.t f.i))

-- MOV (register), encoding T3; LSL, LSR, ASR and ROR by a number, and RRX, are this
abbrev pub mov_register_t3 : Row
mov_register_t3 =
    row (codes "1110101 0010 S 1111 z iii dddd ii tt mmmm")
    (λ f. move_shifted_row (f.S == 1) f.d (shifted_by_number f.m f.t f.i))

-- ORR (register), encoding T2; with n = 1111 it is MOV
abbrev pub orr_register_t2 : Row
orr_register_t2 =
    row_but (codes "1110101 0010 S nnnn z iii dddd ii tt mmmm")
    (codes "xxxxxxx xxxx x 1111 x xxx xxxx xx xx xxxx" ∷ [])
    (λ f. data_shifted_row Or (f.S == 1) f.n f.d (shifted_by_number f.m f.t f.i))

abbrev pub mvn_register_t2 : Row
mvn_register_t2 =
    row (codes "1110101 0011 S 1111 z iii dddd ii tt mmmm")
    (λ f. move_not_shifted_row (f.S == 1) f.d (shifted_by_number f.m f.t f.i))

-- ORN (register), encoding T1; with n = 1111 it is MVN
abbrev pub orn_register_t1 : Row
orn_register_t1 =
    row_but (codes "1110101 0011 S nnnn z iii dddd ii tt mmmm")
    (codes "xxxxxxx xxxx x 1111 x xxx xxxx xx xx xxxx" ∷ [])
    (λ f. data_shifted_row OrNot (f.S == 1) f.n f.d (shifted_by_number f.m f.t f.i))

abbrev pub teq_register_t1 : Row
teq_register_t1 =
    row (codes "1110101 0100 1 nnnn z iii 1111 ii tt mmmm")
    (λ f. compare_shifted_row TestEquivalence f.n (shifted_by_number f.m f.t f.i))

-- EOR (register), encoding T2; with S = 1 and d = 1111 it is TEQ
abbrev pub eor_register_t2 : Row
eor_register_t2 =
    row_but (codes "1110101 0100 S nnnn z iii dddd ii tt mmmm")
    (codes "xxxxxxx xxxx 1 xxxx x xxx 1111 xx xx xxxx" ∷ [])
    (λ f. data_shifted_row ExclusiveOr (f.S == 1) f.n f.d (shifted_by_number f.m f.t f.i))

abbrev pub logical_shifted_rows : List Row
logical_shifted_rows =
    tst_register_t2 ∷ and_register_t2 ∷ bic_register_t2 ∷ mov_register_t3 ∷ orr_register_t2 ∷ mvn_register_t2 ∷
    orn_register_t1 ∷ teq_register_t1 ∷ eor_register_t2 ∷ []

abbrev pub cmn_register_t2 : Row
cmn_register_t2 =
    row (codes "1110101 1000 1 nnnn z iii 1111 ii tt mmmm")
    (λ f. compare_shifted_row CompareNegative f.n (shifted_by_number f.m f.t f.i))

-- ADD (register), encoding T3; with S = 1 and d = 1111 it is CMN
abbrev pub add_register_t3 : Row
add_register_t3 =
    row_but (codes "1110101 1000 S nnnn z iii dddd ii tt mmmm")
    (codes "xxxxxxx xxxx 1 xxxx x xxx 1111 xx xx xxxx" ∷ [])
    (λ f. data_shifted_row Add (f.S == 1) f.n f.d (shifted_by_number f.m f.t f.i))

abbrev pub adc_register_t2 : Row
adc_register_t2 =
    row (codes "1110101 1010 S nnnn z iii dddd ii tt mmmm")
    (λ f. data_shifted_row AddWithCarry (f.S == 1) f.n f.d (shifted_by_number f.m f.t f.i))

abbrev pub sbc_register_t2 : Row
sbc_register_t2 =
    row (codes "1110101 1011 S nnnn z iii dddd ii tt mmmm")
    (λ f. data_shifted_row SubtractWithCarry (f.S == 1) f.n f.d (shifted_by_number f.m f.t f.i))

abbrev pub cmp_register_t3 : Row
cmp_register_t3 =
    row (codes "1110101 1101 1 nnnn z iii 1111 ii tt mmmm")
    (λ f. compare_shifted_row Compare f.n (shifted_by_number f.m f.t f.i))

-- SUB (register), encoding T2; with S = 1 and d = 1111 it is CMP
abbrev pub sub_register_t2 : Row
sub_register_t2 =
    row_but (codes "1110101 1101 S nnnn z iii dddd ii tt mmmm")
    (codes "xxxxxxx xxxx 1 xxxx x xxx 1111 xx xx xxxx" ∷ [])
    (λ f. data_shifted_row Subtract (f.S == 1) f.n f.d (shifted_by_number f.m f.t f.i))

abbrev pub rsb_register_t1 : Row
rsb_register_t1 =
    row (codes "1110101 1110 S nnnn z iii dddd ii tt mmmm")
    (λ f. data_shifted_row ReverseSubtract (f.S == 1) f.n f.d (shifted_by_number f.m f.t f.i))

abbrev pub sum_shifted_rows : List Row
sum_shifted_rows =
    cmn_register_t2 ∷ add_register_t3 ∷ adc_register_t2 ∷ sbc_register_t2 ∷ cmp_register_t3 ∷ sub_register_t2 ∷
    rsb_register_t1 ∷ []
