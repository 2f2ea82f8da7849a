-- The rows of 32 bits in "Branches and miscellaneous control" (ARM DDI 0403, "32-bit Thumb instruction encoding").
use Rattle.std.specs.Prelude.{ℕ, ◌+◌, ◌*◌, ◌^◌, nat_lt, not, ◌==◌, if◌then◌else◌, List, [], ◌∷◌, Option, Some, None}
use Rattle.std.specs.Prelude.{codes}
use Rattle.instruction_set.specs.declared.instruction.ItPosition.TheVariants as place
use Rattle.instruction_set.specs.declared.branch.Branch.TheVariants as branch
use Rattle.instruction_set.specs.declared.instruction.Decoded.{Decoded}
use Rattle.instruction_set.specs.declared.instruction.Decoded.TheVariants.{Unpredictable}
use Rattle.instruction_set.specs.declared.load_store.Exclusive.TheVariants as exclusive
use Rattle.instruction_set.specs.declared.system.Hint.{Hint}
use Rattle.instruction_set.specs.declared.system.Hint.TheVariants as hint
use Rattle.instruction_set.specs.declared.instruction.Instruction.TheVariants.{Branch, Exclusive, System}
use Rattle.instruction_set.specs.declared.instruction.InstructionLength.TheVariants.{Long}
use Rattle.instruction_set.specs.declared.system.System.TheVariants as system
use Rattle.instruction_set.specs.declared.system.SpecialRegister.{SpecialRegister}
use Rattle.instruction_set.specs.declared.unpredictable.UnpredictableCase.TheVariants as cause
use Rattle.instruction_set.specs.RowOperands.{hint_of, special_of}
use Rattle.instruction_set.specs.Rows.{Letters, Row, long, placed, unless, is_bad, row, row_but}
use Rattle.instruction_set.specs.Words.{sign_extended}

-- the parts of a branch's offset: S, J1, J2, imm10 or imm6, and imm11. In the rows the letters J, K, j and i are J1,
-- J2, imm10 or imm6, and imm11
pub record BranchOffset : Type 0 where
  pub sign : ℕ
  pub j1 : ℕ
  pub j2 : ℕ
  pub upper : ℕ
  pub imm11 : ℕ

abbrev pub branch_offset : Letters → BranchOffset
branch_offset f = record { sign = f.S; j1 = f.J; j2 = f.K; upper = f.j; imm11 = f.i }

-- the offset of BL and of the longer B: S:I1:I2:imm10:imm11:'0', where I1 and I2 are J1 and J2, inverted where S is 0
unfoldable pub wide_offset : BranchOffset → ℕ
wide_offset o =
    sign_extended 25
    (o.sign * 2 ^ 24 + (if o.j1 == o.sign then 2 ^ 23 else 0) + (if o.j2 == o.sign then 2 ^ 22 else 0) + o.upper
    * 2 ^ 12 + o.imm11 * 2)

-- the offset of B with a condition: S:J2:J1:imm6:imm11:'0'
unfoldable pub conditional_offset : BranchOffset → ℕ
conditional_offset o =
    sign_extended 21 (o.sign * 2 ^ 20 + o.j2 * 2 ^ 19 + o.j1 * 2 ^ 18 + o.upper * 2 ^ 12 + o.imm11 * 2)

-- BL
unfoldable pub branch_with_link_row : ℕ → Decoded
branch_with_link_row offset = placed Long place.LastOnly (Branch (branch.WithLink (record { offset = offset })))

-- B
unfoldable pub branch_wide_row : ℕ → Decoded
branch_wide_row offset = placed Long place.LastOnly (Branch (branch.Immediate (record { offset = offset })))

-- B with a condition
unfoldable pub branch_wide_if_row : ℕ → ℕ → Decoded
branch_wide_if_row condition offset =
    placed Long place.Never (Branch (branch.Conditional (record { condition = condition; offset = offset })))

abbrev pub to_special : ℕ → Option SpecialRegister → Decoded
to_special n None = Unpredictable place.Anywhere cause.SpecialRegister
to_special n (Some register) = long (System (system.MoveToSpecial (record { special = register; source = n })))

-- MSR: the mask is 10, since there are no GE flags to write
unfoldable pub move_to_special_row : ℕ → ℕ → ℕ → Decoded
move_to_special_row n mask number =
    unless (is_bad n) place.Anywhere cause.Registers
    (unless (not (mask == 2)) place.Anywhere cause.SpecialRegister (to_special n (special_of number)))

abbrev pub from_special : ℕ → Option SpecialRegister → Decoded
from_special d None = Unpredictable place.Anywhere cause.SpecialRegister
from_special d (Some register) = long (System (system.MoveFromSpecial (record { special = register; destination = d })))

-- MRS
unfoldable pub move_from_special_row : ℕ → ℕ → Decoded
move_from_special_row d number =
    unless (is_bad d) place.Anywhere cause.Registers (from_special d (special_of number))

-- the hints of 32 bits by their number: DBG has the top sixteen
unfoldable pub long_hint_of : ℕ → Hint
long_hint_of number = if nat_lt number 240 then hint_of number else hint.Debug

-- ---- the rows

abbrev pub msr_t1 : Row
msr_t1 = row (codes "11110 0 1110 0 z nnnn 10 z 0 kk zz ssssssss") (λ f. move_to_special_row f.n f.k f.s)

abbrev pub mrs_t1 : Row
mrs_t1 = row (codes "11110 0 1111 1 z oooo 10 z 0 dddd ssssssss") (λ f. move_from_special_row f.d f.s)

-- The hints of 32 bits, encoding T2, and DBG, encoding T1
abbrev pub nop_t2 : Row
nop_t2 = row (codes "11110 0 1110 10 oooo 10 z 0 z 000 hhhhhhhh") (λ f. long (System (system.Hint (long_hint_of f.h))))

abbrev pub clrex_t1 : Row
clrex_t1 = row (codes "11110 0 1110 11 oooo 10 z 0 oooo 0010 oooo") (λ f. long (Exclusive exclusive.Clear))

abbrev pub dsb_t1 : Row
dsb_t1 = row (codes "11110 0 1110 11 oooo 10 z 0 oooo 0100 xxxx") (λ f. long (System (system.Hint hint.Barrier)))

abbrev pub dmb_t1 : Row
dmb_t1 = row (codes "11110 0 1110 11 oooo 10 z 0 oooo 0101 xxxx") (λ f. long (System (system.Hint hint.Barrier)))

abbrev pub isb_t1 : Row
isb_t1 = row (codes "11110 0 1110 11 oooo 10 z 0 oooo 0110 xxxx") (λ f. long (System (system.Hint hint.Barrier)))

-- B, encoding T3; with condition 111x these halfwords are those of the rows above, or UNDEFINED
abbrev pub b_t3 : Row
b_t3 =
    row_but (codes "11110 S cccc jjjjjj 10 J 0 K iiiiiiiiiii")
    (codes "xxxxx x 111x xxxxxx xx x x x xxxxxxxxxxx" ∷ [])
    (λ f. branch_wide_if_row f.c (conditional_offset (branch_offset f)))

abbrev pub long_control_rows : List Row
long_control_rows =
    msr_t1 ∷ mrs_t1 ∷ nop_t2 ∷ clrex_t1 ∷ dsb_t1 ∷ dmb_t1 ∷ isb_t1 ∷
    -- BL, T1
    row (codes "11110 S jjjjjjjjjj 11 J 1 K iiiiiiiiiii") (λ f. branch_with_link_row (wide_offset (branch_offset f))) ∷
    -- B, T4
    row (codes "11110 S jjjjjjjjjj 10 J 1 K iiiiiiiiiii") (λ f. branch_wide_row (wide_offset (branch_offset f))) ∷
    b_t3 ∷
    []
