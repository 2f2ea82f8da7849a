-- Multiplication and division (ARM DDI 0403, "Alphabetical list of ARMv7-M Thumb instructions": MUL, MLA, MLS, SMULL,
-- UMULL, SMLAL, UMLAL, SDIV and UDIV, the operation of each).
use Rattle.std.specs.Prelude.{ℕ, ◌+◌, ◌-◌, ◌*◌, ◌/◌, ◌%◌, ◌^◌, nat_lt, Bool, ◌==◌, if◌then◌else◌, ℤ, pos, negsuc, ◌+ℤ◌}
use Rattle.std.specs.Prelude.{◌-ℤ◌, ◌*ℤ◌, int_div}
use Rattle.instruction_set.specs.declared.data_processing.Accumulation.{Accumulation}
use Rattle.instruction_set.specs.declared.data_processing.Accumulation.TheVariants.{Add, Subtract}
use Rattle.instruction_set.specs.declared.data_processing.Divide.{Divide}
use Rattle.instruction_set.specs.declared.data_processing.Multiply.{Multiply}
use Rattle.instruction_set.specs.declared.data_processing.MultiplyAccumulate.{MultiplyAccumulate}
use Rattle.instruction_set.specs.declared.data_processing.MultiplyLong.{MultiplyLong}
use Rattle.instruction_set.specs.Arithmetic.{signed}
use Rattle.instruction_set.specs.Registers.{Registers, register, with_register, with_result}
use Rattle.instruction_set.specs.Results.{written}
use Rattle.instruction_set.specs.Words.{word_sum, negated}

-- ---- integers and their bits

-- z<width - 1:0>, the low bits in two's complement: those of -n - 1 are those of n, each inverted
abbrev pub low_bits : ℕ → ℤ → ℕ
low_bits width (pos n) = n % 2 ^ width
low_bits width (negsuc n) = 2 ^ width - 1 - n % 2 ^ width

-- SInt(x) of 64 bits
abbrev pub signed_wide : ℕ → ℤ
signed_wide x = if nat_lt x (2 ^ 63) then pos x else pos x -ℤ pos (2 ^ 64)

-- a word as an integer: SInt(x), or UInt(x)
abbrev pub number_of : Bool → ℕ → ℤ
number_of is_signed x = if is_signed then signed x else pos x

-- likewise for 64 bits
abbrev pub wide_number_of : Bool → ℕ → ℤ
wide_number_of is_signed x = if is_signed then signed_wide x else pos x

-- ---- one word

-- the low word of a product, which is the same for signed and unsigned operands
abbrev pub word_product : ℕ → ℕ → ℕ
word_product x y = x * y % 2 ^ 32

-- MUL: the flags are N and Z alone
abbrev pub multiply : Multiply → Registers → Registers
multiply o r =
    let product = word_product (register r o.first) (register r o.second) in
    written o.flags o.destination (product, with_result r.flags product) r

-- the addend and the product, or the addend less the product
abbrev pub accumulated : Accumulation → ℕ → ℕ → ℕ
accumulated Add addend product = word_sum addend product
accumulated Subtract addend product = word_sum addend (negated product)

-- MLA and MLS
abbrev pub multiply_accumulate : MultiplyAccumulate → Registers → Registers
multiply_accumulate o r =
    let product = word_product (register r o.first) (register r o.second) in
    with_register r o.destination (accumulated o.operation (register r o.addend) product)

-- ---- two words

-- R[dHi]:R[dLo], a number of 64 bits
abbrev pub pair : Registers → ℕ → ℕ → ℕ
pair r high low = register r high * 2 ^ 32 + register r low

-- R[dHi] = x<63:32>; R[dLo] = x<31:0>
abbrev pub with_pair : Registers → ℕ → ℕ → ℕ → Registers
with_pair r high low x = with_register (with_register r high (x / 2 ^ 32)) low (x % 2 ^ 32)

-- the product of two words, as an integer
abbrev pub product_of : Bool → ℕ → ℕ → ℤ
product_of is_signed x y = number_of is_signed x *ℤ number_of is_signed y

-- SMULL and UMULL: the product's 64 bits
unfoldable pub wide_product : Bool → ℕ → ℕ → ℕ
wide_product is_signed x y = low_bits 64 (product_of is_signed x y)

-- SMLAL and UMLAL: the low 64 bits of the sum of the product and a number of 64 bits
unfoldable pub wide_accumulated : Bool → ℕ → ℕ → ℕ → ℕ
wide_accumulated is_signed x y addend = low_bits 64 (product_of is_signed x y +ℤ wide_number_of is_signed addend)

-- SMULL, UMULL, SMLAL and UMLAL
abbrev pub multiply_long : MultiplyLong → Registers → Registers
multiply_long o r =
    with_pair r o.high o.low
    (if o.accumulates
    then wide_accumulated o.signed (register r o.first) (register r o.second) (pair r o.high o.low)
    else wide_product o.signed (register r o.first) (register r o.second))

-- ---- division

-- the quotient rounded towards zero, of which the low 32 bits stay: 80000000 by -1 is 80000000; by zero it is 0
unfoldable pub quotient : Bool → ℕ → ℕ → ℕ
quotient is_signed x y =
    if y == 0 then 0 else low_bits 32 (int_div (number_of is_signed x) (number_of is_signed y))

-- SDIV and UDIV, where a division by zero isn't trapped
abbrev pub divide : Divide → Registers → Registers
divide o r = with_register r o.destination (quotient o.signed (register r o.dividend) (register r o.divisor))
