-- The rows of 32 bits in "Data processing (register)" and "Miscellaneous operations" (ARM DDI 0403, "32-bit Thumb
-- instruction encoding").
use Rattle.std.specs.Prelude.{ℕ, ◌*◌, not, ◌||◌, ◌==◌, if◌then◌else◌, List, [], ◌∷◌, codes}
use Rattle.instruction_set.specs.declared.instruction.ItPosition.TheVariants as place
use Rattle.instruction_set.specs.declared.data_processing.DataProcessing.TheVariants as processing
use Rattle.instruction_set.specs.declared.instruction.Decoded.{Decoded}
use Rattle.instruction_set.specs.declared.instruction.Instruction.TheVariants.{DataProcessing}
use Rattle.instruction_set.specs.declared.data_processing.Extend.{Extend}
use Rattle.instruction_set.specs.declared.data_processing.Rearrangement.{Rearrangement}
use Rattle.instruction_set.specs.declared.data_processing.Rearrangement.TheVariants.{ReverseWord, ReverseHalfwords}
use Rattle.instruction_set.specs.declared.data_processing.Rearrangement.TheVariants.{ReverseSignedHalfword, ReverseBits}
use Rattle.instruction_set.specs.declared.data_processing.Rearrangement.TheVariants.{CountLeadingZeros}
use Rattle.instruction_set.specs.declared.data_processing.ShiftByRegister.{ShiftByRegister}
use Rattle.instruction_set.specs.declared.shift.ShiftType.{ShiftType}
use Rattle.instruction_set.specs.declared.shift.ShiftType.TheVariants.{Lsl, Lsr, Asr, Ror}
use Rattle.instruction_set.specs.declared.size.Size.{Size}
use Rattle.instruction_set.specs.declared.size.Size.TheVariants.{Byte, Halfword}
use Rattle.instruction_set.specs.declared.unpredictable.UnpredictableCase.TheVariants as cause
use Rattle.instruction_set.specs.RowOperands.{flags_if}
use Rattle.instruction_set.specs.Rows.{Row, long, unless, is_bad, row}

-- LSL, LSR, ASR and ROR by their two bits
abbrev pub shift_type_of : ℕ → ShiftType
shift_type_of bits = if bits == 0 then Lsl else if bits == 1 then Lsr else if bits == 2 then Asr else Ror

-- a shift by a register
unfoldable pub shift_by_register_row : ShiftByRegister → Decoded
shift_by_register_row o =
    unless (is_bad o.source || (is_bad o.destination || is_bad o.amount)) place.Anywhere cause.Registers
    (long (DataProcessing (processing.ShiftByRegister o)))

-- halfword, or byte where the bit is 1
abbrev pub extended_size : ℕ → Size
extended_size bit = if bit == 1 then Byte else Halfword

-- SXTB, SXTH, UXTB and UXTH, after a rotation
unfoldable pub extend_wide_row : Extend → Decoded
extend_wide_row o =
    unless (is_bad o.destination || is_bad o.source) place.Anywhere cause.Registers
    (long (DataProcessing (processing.Extend o)))

-- REV, REV16, RBIT, REVSH and CLZ, in which the source is encoded twice
unfoldable pub rearrange_wide_row : Rearrangement → ℕ → ℕ → ℕ → Decoded
rearrange_wide_row operation again d m =
    unless (is_bad d || (is_bad m || not (again == m))) place.Anywhere cause.Registers
    (long (DataProcessing (processing.Rearrange (record { operation = operation; destination = d; source = m }))))

-- ---- the rows

-- LSL, LSR, ASR and ROR (register), encoding T2
abbrev pub lsl_register_t2 : Row
lsl_register_t2 =
    row (codes "11111010 0 tt S nnnn 1111 dddd 0000 mmmm")
    (λ f. shift_by_register_row (record {
      shift_type = shift_type_of f.t;
      flags = flags_if (f.S == 1);
      destination = f.d;
      source = f.n;
      amount = f.m;
    }))

-- SXTH, UXTH, SXTB and UXTB, encoding T2
abbrev pub sxth_t2 : Row
sxth_t2 =
    row (codes "11111010 0 b 0 u 1111 1111 dddd 1 z rr mmmm")
    (λ f. extend_wide_row (record {
      signed = f.u == 0;
      size = extended_size f.b;
      destination = f.d;
      source = f.m;
      rotation = f.r * 8;
    }))

abbrev pub revsh_t2 : Row
revsh_t2 =
    row (codes "11111010 1 001 nnnn 1111 dddd 1 0 11 mmmm")
    (λ f. rearrange_wide_row ReverseSignedHalfword f.n f.d f.m)

abbrev pub register_rows : List Row
register_rows =
    lsl_register_t2 ∷ sxth_t2 ∷
    -- REV, T2
    row (codes "11111010 1 001 nnnn 1111 dddd 1 0 00 mmmm") (λ f. rearrange_wide_row ReverseWord f.n f.d f.m) ∷
    -- REV16, T2
    row (codes "11111010 1 001 nnnn 1111 dddd 1 0 01 mmmm") (λ f. rearrange_wide_row ReverseHalfwords f.n f.d f.m) ∷
    -- RBIT, T1
    row (codes "11111010 1 001 nnnn 1111 dddd 1 0 10 mmmm") (λ f. rearrange_wide_row ReverseBits f.n f.d f.m) ∷
    revsh_t2 ∷
    -- CLZ, T1
    row (codes "11111010 1 011 nnnn 1111 dddd 1 0 00 mmmm") (λ f. rearrange_wide_row CountLeadingZeros f.n f.d f.m) ∷
    []
