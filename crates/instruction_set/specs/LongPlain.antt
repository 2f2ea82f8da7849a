-- The rows of 32 bits in "Data processing (plain binary immediate)" (ARM DDI 0403, "32-bit Thumb instruction
-- encoding").
use Rattle.std.specs.Prelude.{ℕ, ◌+◌, ◌-◌, ◌*◌, ◌^◌, nat_lt, true, false, ◌||◌, List, [], ◌∷◌, codes}
use Rattle.instruction_set.specs.declared.instruction.ItPosition.TheVariants as place
use Rattle.instruction_set.specs.declared.data_processing.DataProcessing.TheVariants as processing
use Rattle.instruction_set.specs.declared.instruction.Decoded.{Decoded}
use Rattle.instruction_set.specs.declared.instruction.Instruction.TheVariants.{DataProcessing}
use Rattle.instruction_set.specs.declared.data_processing.DataOperation.{DataOperation}
use Rattle.instruction_set.specs.declared.data_processing.DataOperation.TheVariants.{Add, Subtract}
use Rattle.instruction_set.specs.declared.data_processing.ExtractField.{ExtractField}
use Rattle.instruction_set.specs.declared.data_processing.FlagSetting.TheVariants as flags
use Rattle.instruction_set.specs.declared.data_processing.MoveOperation.TheVariants.{Move}
use Rattle.instruction_set.specs.declared.data_processing.Saturate.{Saturate}
use Rattle.instruction_set.specs.declared.unpredictable.UnpredictableCase.TheVariants as cause
use Rattle.instruction_set.specs.LongImmediate.{is_refused_destination}
use Rattle.instruction_set.specs.RowOperands.{plain_immediate, shifted_by_number}
use Rattle.instruction_set.specs.Rows.{Row, long, unless, is_bad, row, row_but}
use Rattle.instruction_set.specs.Words.{negated}

-- ADDW and SUBW: a number of twelve bits, which sets no flags
unfoldable pub add_wide_row : DataOperation → ℕ → ℕ → ℕ → Decoded
add_wide_row operation n d imm12 =
    unless (is_refused_destination true n d) place.Anywhere cause.Registers
    (long (DataProcessing (processing.DataImmediate (record {
      operation = operation;
      flags = flags.Never;
      destination = d;
      first = n;
      second = plain_immediate imm12;
    }))))

-- ADR
unfoldable pub address_wide_row : ℕ → ℕ → Decoded
address_wide_row d offset =
    unless (is_bad d) place.Anywhere cause.Registers
    (long (DataProcessing (processing.Address (record { destination = d; offset = offset }))))

-- imm16 = imm4:i:imm3:imm8
unfoldable pub halfword : ℕ → ℕ → ℕ
halfword top imm12 = top * 2 ^ 12 + imm12

-- MOVW
unfoldable pub move_wide_row : ℕ → ℕ → Decoded
move_wide_row d imm16 =
    unless (is_bad d) place.Anywhere cause.Registers
    (long (DataProcessing (processing.MoveImmediate
    (record { operation = Move; flags = flags.Never; destination = d; source = plain_immediate imm16 }))))

-- MOVT
unfoldable pub move_top_row : ℕ → ℕ → Decoded
move_top_row d imm16 =
    unless (is_bad d) place.Anywhere cause.Registers
    (long (DataProcessing (processing.MoveTop (record { destination = d; value = imm16 }))))

-- SSAT and USAT
unfoldable pub saturate_row : Saturate → Decoded
saturate_row o =
    unless (is_bad o.destination || is_bad o.source.register) place.Anywhere cause.Registers
    (long (DataProcessing (processing.Saturate o)))

-- SBFX and UBFX: the field ends at most at bit 31
unfoldable pub extract_field_row : ExtractField → Decoded
extract_field_row o =
    unless (is_bad o.destination || is_bad o.source) place.Anywhere cause.Registers
    (unless (nat_lt 32 (o.low + o.width)) place.Anywhere cause.BitField
    (long (DataProcessing (processing.ExtractField o))))

-- BFI: the field's last bit isn't below its first
unfoldable pub insert_field_row : ℕ → ℕ → ℕ → ℕ → Decoded
insert_field_row n d low high =
    unless (is_bad d || is_bad n) place.Anywhere cause.Registers
    (unless (nat_lt high low) place.Anywhere cause.BitField
    (long (DataProcessing (processing.InsertField
    (record { destination = d; source = n; low = low; width = high + 1 - low })))))

-- BFC
unfoldable pub clear_field_row : ℕ → ℕ → ℕ → Decoded
clear_field_row d low high =
    unless (is_bad d) place.Anywhere cause.Registers
    (unless (nat_lt high low) place.Anywhere cause.BitField
    (long (DataProcessing (processing.ClearField (record { destination = d; low = low; width = high + 1 - low })))))

-- ---- the rows

abbrev pub adr_t3 : Row
adr_t3 = row (codes "11110 i 1 00000 1111 0 iii dddd iiiiiiii") (λ f. address_wide_row f.d f.i)

-- ADD (immediate), encoding T4; with n = 1111 it is ADR
abbrev pub add_immediate_t4 : Row
add_immediate_t4 =
    row_but (codes "11110 i 1 00000 nnnn 0 iii dddd iiiiiiii")
    (codes "xxxxx x x xxxxx 1111 x xxx xxxx xxxxxxxx" ∷ [])
    (λ f. add_wide_row Add f.n f.d f.i)

abbrev pub adr_t2 : Row
adr_t2 = row (codes "11110 i 1 01010 1111 0 iii dddd iiiiiiii") (λ f. address_wide_row f.d (negated f.i))

-- SUB (immediate), encoding T4; with n = 1111 it is ADR
abbrev pub sub_immediate_t4 : Row
sub_immediate_t4 =
    row_but (codes "11110 i 1 01010 nnnn 0 iii dddd iiiiiiii")
    (codes "xxxxx x x xxxxx 1111 x xxx xxxx xxxxxxxx" ∷ [])
    (λ f. add_wide_row Subtract f.n f.d f.i)

-- SSAT, encoding T1; ASR (h = 1) by 00000 is UNDEFINED
abbrev pub ssat_t1 : Row
ssat_t1 =
    row_but (codes "11110 z 1 100 h 0 nnnn 0 iii dddd ii z wwwww")
    (codes "xxxxx x x xxx 1 x xxxx x 000 xxxx 00 x xxxxx" ∷ [])
    (λ f. saturate_row (record {
      signed = true;
      destination = f.d;
      bits = f.w + 1;
      source = shifted_by_number f.n (f.h * 2) f.i;
    }))

abbrev pub sbfx_t1 : Row
sbfx_t1 =
    row (codes "11110 z 1 10100 nnnn 0 iii dddd ii z wwwww")
    (λ f. extract_field_row (record {
      signed = true;
      destination = f.d;
      source = f.n;
      low = f.i;
      width = f.w + 1;
    }))

abbrev pub bfc_t1 : Row
bfc_t1 = row (codes "11110 z 1 10110 1111 0 iii dddd ii z wwwww") (λ f. clear_field_row f.d f.i f.w)

-- BFI, encoding T1; with n = 1111 it is BFC
abbrev pub bfi_t1 : Row
bfi_t1 =
    row_but (codes "11110 z 1 10110 nnnn 0 iii dddd ii z wwwww")
    (codes "xxxxx x x xxxxx 1111 x xxx xxxx xx x xxxxx" ∷ [])
    (λ f. insert_field_row f.n f.d f.i f.w)

-- USAT, encoding T1; ASR (h = 1) by 00000 is UNDEFINED
abbrev pub usat_t1 : Row
usat_t1 =
    row_but (codes "11110 z 1 110 h 0 nnnn 0 iii dddd ii z wwwww")
    (codes "xxxxx x x xxx 1 x xxxx x 000 xxxx 00 x xxxxx" ∷ [])
    (λ f. saturate_row (record {
      signed = false;
      destination = f.d;
      bits = f.w;
      source = shifted_by_number f.n (f.h * 2) f.i;
    }))

abbrev pub ubfx_t1 : Row
ubfx_t1 =
    row (codes "11110 z 1 11100 nnnn 0 iii dddd ii z wwwww")
    (λ f. extract_field_row (record {
      signed = false;
      destination = f.d;
      source = f.n;
      low = f.i;
      width = f.w + 1;
    }))

abbrev pub plain_rows : List Row
plain_rows =
    adr_t3 ∷ add_immediate_t4 ∷
    -- MOV (immediate), T3
    row (codes "11110 i 1 00100 nnnn 0 iii dddd iiiiiiii") (λ f. move_wide_row f.d (halfword f.n f.i)) ∷
    adr_t2 ∷ sub_immediate_t4 ∷
    row (codes "11110 i 1 01100 nnnn 0 iii dddd iiiiiiii") (λ f. move_top_row f.d (halfword f.n f.i)) ∷  -- MOVT, T1
    ssat_t1 ∷ sbfx_t1 ∷ bfc_t1 ∷ bfi_t1 ∷ usat_t1 ∷ ubfx_t1 ∷
    []
