-- The branches and IT (ARM DDI 0403, the operation of B, BL, BX, BLX, CBZ, CBNZ, TBB, TBH and IT): the accesses of
-- each, and where it goes on.
use Rattle.std.specs.Prelude.{ℕ, ◌+◌, ◌*◌, ◌/◌, ◌%◌, ◌^◌, Bool, not, ◌==◌, if◌then◌else◌, List, [], Result, Ok}
use Rattle.instruction_set.specs.declared.branch.Branch.{Branch}
use Rattle.instruction_set.specs.declared.branch.Branch.TheVariants as branch
use Rattle.instruction_set.specs.declared.instruction.InstructionLength.{InstructionLength}
use Rattle.instruction_set.specs.declared.branch.BranchExchange.{BranchExchange}
use Rattle.instruction_set.specs.declared.branch.CompareAndBranch.{CompareAndBranch}
use Rattle.instruction_set.specs.declared.branch.ConditionalBranch.{ConditionalBranch}
use Rattle.instruction_set.specs.declared.branch.IfThen.{IfThen}
use Rattle.instruction_set.specs.declared.branch.TableBranch.{TableBranch}
use Rattle.instruction_set.specs.Arithmetic.{condition_holds}
use Rattle.instruction_set.specs.Registers.{Registers, register, with_register, with_exchange, is_privileged}
use Rattle.instruction_set.specs.Sizes.{bytes_in, instruction_bytes}
use Rattle.instruction_set.specs.Words.{word_sum}
use Rattle.platform.specs.declared.access.Kind.TheVariants.{Load}
use Rattle.platform.specs.declared.access.Request.{Request}
use Rattle.reference.specs.declared.ending.Ending.TheVariants.{Next}
use Rattle.reference.specs.declared.failure.Failure.{Failure}
use Rattle.reference.specs.declared.failure.Traps.{Traps}
use Rattle.reference.specs.LoadStore.{transfer, joined}
use Rattle.reference.specs.ProgramCounter.{Finished, advances, branches, branches_by, exchanges}

-- ---- branches

-- B with a condition of its own
abbrev pub conditional_branch : InstructionLength → ConditionalBranch → Registers → Finished
conditional_branch length o r =
    if condition_holds o.condition r.flags then branches_by o.offset r else advances length r

-- LR = next_instr_addr<31:1> : '1'
abbrev pub with_link : InstructionLength → Registers → Registers
with_link length r = with_register r 14 (word_sum r.pc (instruction_bytes length) / 2 * 2 + 1)

-- BX, and BLX, which never returns from an exception
abbrev pub branch_exchange : InstructionLength → BranchExchange → Registers → Finished
branch_exchange length o r =
    if o.links
    then branches (with_exchange (with_link length r) (register r o.target))
    else exchanges (register r o.target) r

-- whether CBZ or CBNZ is taken: nonzero EOR IsZero(R[n])
abbrev pub takes_branch : CompareAndBranch → Registers → Bool
takes_branch o r = if o.nonzero then not (register r o.register == 0) else register r o.register == 0

-- CBZ and CBNZ
abbrev pub compare_and_branch : InstructionLength → CompareAndBranch → Registers → Finished
compare_and_branch length o r = if takes_branch o r then branches_by o.offset r else advances length r

-- the entry of a table: the byte at R[n] + R[m], or the halfword at R[n] + LSL(R[m], 1)
abbrev pub entry_address : TableBranch → Registers → ℕ
entry_address o r = word_sum (register r o.base) (bytes_in o.size * register r o.index)

-- TBB and TBH: BranchWritePC(PC + 2 * UInt(halfwords))
abbrev pub table_branch : ℕ → Registers → Finished
table_branch halfwords r = branches_by (2 * halfwords) r

-- ---- IT

-- ITSTATE.IT<7:0> = firstcond:mask
abbrev pub it_state_of : IfThen → ℕ
it_state_of o = o.condition % 2 ^ 4 * 2 ^ 4 + o.mask % 2 ^ 4

-- IT: the block begins with the next instruction, so ITSTATE is set and not advanced
abbrev pub if_then : InstructionLength → IfThen → Registers → Finished
if_then length o r =
    record {
      registers = record r { it_state = it_state_of o; pc = word_sum r.pc (instruction_bytes length) };
      ending =
          Next;
    }

-- ---- the family

-- the accesses of a branch: TBB and TBH read the entry of the table
unfoldable pub branch_requests : Traps → Branch → Registers → Result (List Request) Failure
branch_requests traps (branch.Immediate o) r = Ok []
branch_requests traps (branch.Conditional o) r = Ok []
branch_requests traps (branch.WithLink o) r = Ok []
branch_requests traps (branch.Exchange o) r = Ok []
branch_requests traps (branch.CompareAndBranch o) r = Ok []
branch_requests traps (branch.Table o) r = transfer traps Load (is_privileged r) o.size (entry_address o r) 0
branch_requests traps (branch.IfThen o) r = Ok []

-- what a branch of this length does
unfoldable pub branch_effect : InstructionLength → Branch → Registers → List ℕ → Finished
branch_effect length (branch.Immediate o) r values = branches_by o.offset r
branch_effect length (branch.Conditional o) r values = conditional_branch length o r
branch_effect length (branch.WithLink o) r values = branches_by o.offset (with_link length r)
branch_effect length (branch.Exchange o) r values = branch_exchange length o r
branch_effect length (branch.CompareAndBranch o) r values = compare_and_branch length o r
branch_effect length (branch.Table o) r values = table_branch (joined values) r
branch_effect length (branch.IfThen o) r values = if_then length o r
