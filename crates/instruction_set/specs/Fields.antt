-- Saturation, bit fields, extension, and the bits of one register rearranged (ARM DDI 0403, "Alphabetical list of
-- ARMv7-M Thumb instructions": SSAT, USAT, SBFX, UBFX, BFI, BFC, SXTB, SXTH, UXTB, UXTH, REV, REV16, REVSH, RBIT and
-- CLZ, the operation of each; SatQ() and HighestSetBit()). Amounts that no row has (a field that ends above bit 31, a
-- range of more than 32 bits) have a value too, on which nothing depends.
use Rattle.std.specs.Prelude.{ℕ, zero, suc, ◌+◌, ◌-◌, ◌*◌, ◌/◌, ◌%◌, ◌^◌, Bool, false, not, ◌||◌, if◌then◌else◌, ℤ, pos}
use Rattle.std.specs.Prelude.{neg_ℤ, int_lt}
use Rattle.std.specs.Ordering.{int_eq}
use Rattle.instruction_set.specs.declared.data_processing.ClearField.{ClearField}
use Rattle.instruction_set.specs.declared.data_processing.Extend.{Extend}
use Rattle.instruction_set.specs.declared.data_processing.ExtractField.{ExtractField}
use Rattle.instruction_set.specs.declared.data_processing.InsertField.{InsertField}
use Rattle.instruction_set.specs.declared.data_processing.Rearrange.{Rearrange}
use Rattle.instruction_set.specs.declared.data_processing.Rearrangement.{Rearrangement}
use Rattle.instruction_set.specs.declared.data_processing.Rearrangement.TheVariants.{ReverseWord, ReverseHalfwords}
use Rattle.instruction_set.specs.declared.data_processing.Rearrangement.TheVariants.{ReverseSignedHalfword, ReverseBits}
use Rattle.instruction_set.specs.declared.data_processing.Rearrangement.TheVariants.{CountLeadingZeros}
use Rattle.instruction_set.specs.declared.data_processing.Saturate.{Saturate}
use Rattle.instruction_set.specs.declared.shift.ShiftType.TheVariants.{Ror}
use Rattle.instruction_set.specs.declared.size.Size.{Size}
use Rattle.instruction_set.specs.declared.size.Size.TheVariants.{Byte, Halfword, Word}
use Rattle.instruction_set.specs.Arithmetic.{signed, shift_c}
use Rattle.instruction_set.specs.Products.{low_bits}
use Rattle.instruction_set.specs.Registers.{Registers, register, with_register}
use Rattle.instruction_set.specs.Results.{shifted}
use Rattle.instruction_set.specs.Words.{bits, bit_at, is_bit, sign_extended}

-- ---- saturation

-- the least number of this many bits: -2^(bits - 1) of the signed ones, or 0
abbrev pub least : Bool → ℕ → ℤ
least is_signed bits = if is_signed then neg_ℤ (pos (2 ^ (bits - 1))) else pos 0

-- and the greatest: 2^(bits - 1) - 1, or 2^bits - 1
abbrev pub greatest : Bool → ℕ → ℤ
greatest is_signed bits = if is_signed then pos (2 ^ (bits - 1) - 1) else pos (2 ^ bits - 1)

-- the number itself, or the end of the range that it is beyond
abbrev pub nearest : ℤ → ℤ → ℤ → ℤ
nearest from to i = if int_lt to i then to else if int_lt i from then from else i

-- SignedSatQ(SInt(x), bits) and UnsignedSatQ(SInt(x), bits): the result as a word, and whether it was saturated
unfoldable pub saturated : Bool → ℕ → ℕ → ℕ × Bool
saturated is_signed bits x =
    let result = nearest (least is_signed bits) (greatest is_signed bits) (signed x) in
    (low_bits 32 result, not (int_eq result (signed x)))

-- SSAT and USAT of the word shifted, read as signed: Q is set where the result is saturated, otherwise left as it was
abbrev pub saturate : Saturate → Registers → Registers
saturate o r =
    let given = saturated o.signed o.bits (shifted o.source r).0 in
    record (with_register r o.destination given.0) {
      flags = record r.flags { saturated = r.flags.saturated || given.1 };
    }

-- ---- bit fields

-- the lowest bits of x, extended with their sign or with zeros
abbrev pub extended : Bool → ℕ → ℕ → ℕ
extended is_signed width x = if is_signed then sign_extended width (x % 2 ^ width) else x % 2 ^ width

-- SBFX and UBFX: R[n]<low + width - 1:low>, extended
abbrev pub extract_field : ExtractField → Registers → Registers
extract_field o r = with_register r o.destination (extended o.signed o.width (register r o.source / 2 ^ o.low))

-- x with 0 for x<low + width - 1:low>
unfoldable pub cleared : ℕ → ℕ → ℕ → ℕ
cleared x low width = x - bits x low width * 2 ^ low

-- x with y<width - 1:0> for x<low + width - 1:low>
unfoldable pub inserted : ℕ → ℕ → ℕ → ℕ → ℕ
inserted x y low width = (cleared x low width + y % 2 ^ width * 2 ^ low) % 2 ^ 32

-- BFI
abbrev pub insert_field : InsertField → Registers → Registers
insert_field o r =
    with_register r o.destination (inserted (register r o.destination) (register r o.source) o.low o.width)

-- BFC
abbrev pub clear_field : ClearField → Registers → Registers
clear_field o r = with_register r o.destination (cleared (register r o.destination) o.low o.width)

-- ---- extension

-- how many bits a byte, a halfword or a word has
abbrev pub width_of : Size → ℕ
width_of Byte = 8
width_of Halfword = 16
width_of Word = 32

-- ROR(x, n)
abbrev pub ror : ℕ → ℕ → ℕ
ror x n = (shift_c x Ror n false).0

-- SXTB, SXTH, UXTB and UXTH: the low byte or halfword of ROR(R[m], rotation), extended
abbrev pub extend : Extend → Registers → Registers
extend o r =
    with_register r o.destination (extended o.signed (width_of o.size) (ror (register r o.source) o.rotation))

-- ---- bytes and bits in another order

-- byte k of x: x<8 * k + 7:8 * k>
abbrev pub byte : ℕ → ℕ → ℕ
byte k x = x / 2 ^ (8 * k) % 2 ^ 8

-- the word of four bytes, the highest first
abbrev pub word : ℕ → ℕ → ℕ → ℕ → ℕ
word a b c d = a * 2 ^ 24 + b * 2 ^ 16 + c * 2 ^ 8 + d

-- for i = 0 to count - 1, result<31 - i> = x<i>
unfoldable pub reversed : ℕ → ℕ → ℕ
reversed zero x = 0
reversed (suc i) x = reversed i x + bit_at x i * 2 ^ (31 - i)

-- HighestSetBit(x<count - 1:0>) + 1: 0 where no bit is set
unfoldable pub significant_bits : ℕ → ℕ → ℕ
significant_bits zero x = 0
significant_bits (suc i) x = if is_bit x i then i + 1 else significant_bits i x

-- CountLeadingZeroBits(x): 31 - HighestSetBit(x)
abbrev pub count_leading_zero_bits : ℕ → ℕ
count_leading_zero_bits x = 32 - significant_bits 32 x

-- the bytes or the bits of a word in another order, or how many 0 bits are above its highest 1 bit (32 for 0)
unfoldable pub rearranged : Rearrangement → ℕ → ℕ
rearranged ReverseWord x = word (byte 0 x) (byte 1 x) (byte 2 x) (byte 3 x)
rearranged ReverseHalfwords x = word (byte 2 x) (byte 3 x) (byte 0 x) (byte 1 x)
rearranged ReverseSignedHalfword x = sign_extended 16 (byte 0 x * 2 ^ 8 + byte 1 x)
rearranged ReverseBits x = reversed 32 x
rearranged CountLeadingZeros x = count_leading_zero_bits x

-- REV, REV16, REVSH, RBIT and CLZ
abbrev pub rearrange : Rearrange → Registers → Registers
rearrange o r = with_register r o.destination (rearranged o.operation (register r o.source))
