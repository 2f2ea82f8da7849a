-- The rows of 32 bits in "Multiply, multiply accumulate, and absolute difference" and "Long multiply, long multiply
-- accumulate, and divide", and the coprocessors' (ARM DDI 0403, "32-bit Thumb instruction encoding").
use Rattle.std.specs.Prelude.{ℕ, ◌||◌, ◌==◌, List, [], ◌∷◌, codes}
use Rattle.instruction_set.specs.declared.instruction.ItPosition.TheVariants as place
use Rattle.instruction_set.specs.declared.data_processing.DataProcessing.TheVariants as processing
use Rattle.instruction_set.specs.declared.instruction.Decoded.{Decoded}
use Rattle.instruction_set.specs.declared.instruction.Decoded.TheVariants.{NoCoprocessor}
use Rattle.instruction_set.specs.declared.instruction.Instruction.TheVariants.{DataProcessing}
use Rattle.instruction_set.specs.declared.data_processing.Accumulation.{Accumulation}
use Rattle.instruction_set.specs.declared.data_processing.Accumulation.TheVariants as sum
use Rattle.instruction_set.specs.declared.data_processing.Divide.{Divide}
use Rattle.instruction_set.specs.declared.data_processing.FlagSetting.TheVariants as flags
use Rattle.instruction_set.specs.declared.data_processing.MultiplyAccumulate.{MultiplyAccumulate}
use Rattle.instruction_set.specs.declared.data_processing.MultiplyLong.{MultiplyLong}
use Rattle.instruction_set.specs.declared.unpredictable.UnpredictableCase.TheVariants as cause
use Rattle.instruction_set.specs.Rows.{Letters, Row, long, unless, is_bad, row, row_but}

-- MUL
unfoldable pub multiply_wide_row : ℕ → ℕ → ℕ → Decoded
multiply_wide_row n d m =
    unless (is_bad n || (is_bad d || is_bad m)) place.Anywhere cause.Registers
    (long (DataProcessing (processing.Multiply
    (record { flags = flags.Never; destination = d; first = n; second = m }))))

-- the operands of MLA and MLS
abbrev pub product_sum : Accumulation → Letters → MultiplyAccumulate
product_sum operation f = record { operation = operation; destination = f.d; first = f.n; second = f.m; addend = f.a }

-- MLA and MLS
unfoldable pub multiply_accumulate_row : MultiplyAccumulate → Decoded
multiply_accumulate_row o =
    unless (is_bad o.first || (is_bad o.addend || (is_bad o.destination || is_bad o.second))) place.Anywhere
    cause.Registers
    (long (DataProcessing (processing.MultiplyAccumulate o)))

-- SMULL, UMULL, SMLAL and UMLAL: the two destinations differ
unfoldable pub multiply_long_row : MultiplyLong → Decoded
multiply_long_row o =
    unless (is_bad o.first || (is_bad o.low || (is_bad o.high || (is_bad o.second || o.low == o.high)))) place.Anywhere
    cause.Registers (long (DataProcessing (processing.MultiplyLong o)))

-- SDIV and UDIV
unfoldable pub divide_row : Divide → Decoded
divide_row o =
    unless (is_bad o.dividend || (is_bad o.destination || is_bad o.divisor)) place.Anywhere cause.Registers
    (long (DataProcessing (processing.Divide o)))

-- ---- the rows

abbrev pub mul_t2 : Row
mul_t2 = row (codes "111110110 000 nnnn 1111 dddd 0000 mmmm") (λ f. multiply_wide_row f.n f.d f.m)

-- MLA, encoding T1; with a = 1111 it is MUL
abbrev pub mla_t1 : Row
mla_t1 =
    row_but (codes "111110110 000 nnnn aaaa dddd 0000 mmmm")
    (codes "xxxxxxxxx xxx xxxx 1111 xxxx xxxx xxxx" ∷ [])
    (λ f. multiply_accumulate_row (product_sum sum.Add f))

-- SMULL, UMULL, SMLAL and UMLAL, encoding T1
abbrev pub smull_t1 : Row
smull_t1 =
    row (codes "111110111 A u 0 nnnn llll hhhh 0000 mmmm")
    (λ f. multiply_long_row (record {
      signed = f.u == 0;
      accumulates = f.A == 1;
      low = f.l;
      high = f.h;
      first = f.n;
      second = f.m;
    }))

-- SDIV and UDIV, encoding T1
abbrev pub sdiv_t1 : Row
sdiv_t1 =
    row (codes "111110111 0 u 1 nnnn oooo dddd 1111 mmmm")
    (λ f. divide_row (record { signed = f.u == 0; destination = f.d; dividend = f.n; divisor = f.m }))

-- The instructions of coprocessors: every first halfword 111x11.. is NOCP (profile). For 111x1111 the manual is unclear
-- (docs/CROSSCHECK.md)
abbrev pub coprocessor : Row
coprocessor = row (codes "111 x 11 xx xxxxxxxx xxxxxxxxxxxxxxxx") (λ f. NoCoprocessor)

abbrev pub product_rows : List Row
product_rows =
    mul_t2 ∷ mla_t1 ∷
    -- MLS, T1
    row (codes "111110110 000 nnnn aaaa dddd 0001 mmmm") (λ f. multiply_accumulate_row (product_sum sum.Subtract f)) ∷
    smull_t1 ∷ sdiv_t1 ∷ coprocessor ∷
    []
