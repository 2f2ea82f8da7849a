-- The rows of 16 bits in "Conditional branch, and Supervisor Call" and "Unconditional Branch" (ARM DDI 0403, "16-bit
-- Thumb instruction encoding").
use Rattle.std.specs.Prelude.{ℕ, ◌*◌, List, [], ◌∷◌, codes}
use Rattle.instruction_set.specs.declared.instruction.ItPosition.TheVariants as place
use Rattle.instruction_set.specs.declared.branch.Branch.TheVariants as branch
use Rattle.instruction_set.specs.declared.instruction.Decoded.{Decoded}
use Rattle.instruction_set.specs.declared.instruction.Decoded.TheVariants.{Undefined}
use Rattle.instruction_set.specs.declared.instruction.Instruction.TheVariants.{Branch, System}
use Rattle.instruction_set.specs.declared.instruction.InstructionLength.TheVariants.{Short}
use Rattle.instruction_set.specs.declared.system.System.TheVariants.{SupervisorCall}
use Rattle.instruction_set.specs.Rows.{Row, short, placed, row, row_but}
use Rattle.instruction_set.specs.Words.{sign_extended}

-- B with a condition: the offset counts halfwords, and is signed
unfoldable pub branch_if_row : ℕ → ℕ → Decoded
branch_if_row condition halfwords =
    placed Short place.Never (Branch (branch.Conditional
    (record { condition = condition; offset = sign_extended 9 (halfwords * 2) })))

-- B: the offset counts halfwords, and is signed
unfoldable pub branch_row : ℕ → Decoded
branch_row halfwords = placed Short place.LastOnly
    (Branch (branch.Immediate (record { offset = sign_extended 12 (halfwords * 2) })))

-- ---- the rows

abbrev pub udf_t1 : Row
udf_t1 = row (codes "1101 1110 iiiiiiii") (λ f. Undefined)

abbrev pub svc_t1 : Row
svc_t1 = row (codes "1101 1111 iiiiiiii") (λ f. short (System (SupervisorCall f.i)))

-- B, encoding T1; with the condition 1110 it is UDF, with 1111 SVC
abbrev pub b_t1 : Row
b_t1 = row_but (codes "1101 cccc iiiiiiii") (codes "xxxx 111x xxxxxxxx" ∷ []) (λ f. branch_if_row f.c f.i)

abbrev pub branch_rows : List Row
branch_rows =
    udf_t1 ∷ svc_t1 ∷ b_t1 ∷
    row (codes "11100 iiiiiiiiiii") (λ f. branch_row f.i) ∷  -- B, T2
    []
