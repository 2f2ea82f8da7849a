-- The accesses of an instruction, and what it does with the values that it reads (ARM DDI 0403, "Alphabetical list of
-- ARMv7-M Thumb instructions"). The chapter of its family has both, but for the instructions that compute,
-- whose accesses and ends are here. This chapter fixes the order: the position in an IT block, then the condition, then
-- the family.
use Rattle.std.specs.Prelude.{ℕ, Bool, false, not, ◌&&◌, ◌||◌, if◌then◌else◌, List, [], Result, Ok, Err}
use Rattle.instruction_set.specs.declared.instruction.ItPosition.{ItPosition}
use Rattle.instruction_set.specs.declared.instruction.ItPosition.TheVariants.{Anywhere, LastOnly, Never}
use Rattle.instruction_set.specs.declared.instruction.CodedInstruction.{CodedInstruction}
use Rattle.instruction_set.specs.declared.data_processing.DataProcessing.{DataProcessing as DataProcessingForm}
use Rattle.instruction_set.specs.declared.instruction.Instruction.{Instruction}
use Rattle.instruction_set.specs.declared.instruction.Instruction.TheVariants.{DataProcessing, LoadStore}
use Rattle.instruction_set.specs.declared.instruction.Instruction.TheVariants.{LoadStoreMultiple, Exclusive, Branch}
use Rattle.instruction_set.specs.declared.instruction.Instruction.TheVariants.{System}
use Rattle.instruction_set.specs.declared.instruction.InstructionLength.{InstructionLength}
use Rattle.instruction_set.specs.declared.unpredictable.UnpredictableCase.TheVariants.{ItBlock}
use Rattle.instruction_set.specs.Arithmetic.{in_it_block, last_in_it_block, condition_passed}
use Rattle.instruction_set.specs.DataProcessing.{processed, writes_pc, divides_by_zero}
use Rattle.instruction_set.specs.Registers.{Registers}
use Rattle.platform.specs.declared.access.Request.{Request}
use Rattle.reference.specs.declared.failure.Failure.{Failure}
use Rattle.reference.specs.declared.failure.Failure.TheVariants.{Stop, Usage}
use Rattle.reference.specs.declared.failure.Traps.{Traps}
use Rattle.reference.specs.declared.failure.UsageFault.TheVariants.{DivideByZero}
use Rattle.platform.specs.declared.stop.Stop.TheVariants.{Unpredictable}
use Rattle.reference.specs.Branches.{branch_requests, branch_effect}
use Rattle.reference.specs.Exclusives.{exclusive_requests, exclusive_effect}
use Rattle.reference.specs.LoadStore.{load_store_requests, load_store_effect}
use Rattle.reference.specs.LoadStoreMultiple.{load_store_multiple_requests, load_store_multiple_effect}
use Rattle.reference.specs.ProgramCounter.{Finished, advances, branches}
use Rattle.reference.specs.SystemInstructions.{has_no_condition, system_requests, system_effect}

-- ---- before an instruction

-- whether an instruction isn't allowed at its position in an IT block
abbrev pub is_misplaced : ItPosition → ℕ → Bool
is_misplaced Anywhere it_state = false
is_misplaced LastOnly it_state = in_it_block it_state && not (last_in_it_block it_state)
is_misplaced Never it_state = in_it_block it_state

-- whether it is carried out whatever the condition is
abbrev pub is_unconditional : Instruction → Bool
is_unconditional (DataProcessing i) = false
is_unconditional (LoadStore i) = false
is_unconditional (LoadStoreMultiple i) = false
is_unconditional (Exclusive i) = false
is_unconditional (Branch i) = false
is_unconditional (System i) = has_no_condition i

-- whether it is carried out: ConditionPassed(), or it has no condition
abbrev pub is_carried_out : Instruction → Registers → Bool
is_carried_out i r = is_unconditional i || condition_passed r.it_state r.flags

-- ---- the instructions that compute

-- there is no access, and a division by zero is UsageFault DIVBYZERO where CCR.DIV_0_TRP is set
abbrev pub data_processing_requests : Traps → DataProcessingForm → Registers → Result (List Request) Failure
data_processing_requests traps i r =
    if traps.divide_by_zero && divides_by_zero i r then Err (Usage DivideByZero) else Ok []

-- what an instruction of this length does
abbrev pub data_processing_effect : InstructionLength → DataProcessingForm → Registers → Finished
data_processing_effect length i r = if writes_pc i then branches (processed i r) else advances length (processed i r)

-- ---- the accesses of an instruction

-- one that is carried out: the accesses in their order, or the fault or the stop that comes in place of them
unfoldable pub requests_of : Traps → Instruction → Registers → Result (List Request) Failure
requests_of traps (DataProcessing i) r = data_processing_requests traps i r
requests_of traps (LoadStore i) r = load_store_requests traps i r
requests_of traps (LoadStoreMultiple i) r = load_store_multiple_requests i r
requests_of traps (Exclusive i) r = exclusive_requests traps.devices i r
requests_of traps (Branch i) r = branch_requests traps i r
requests_of traps (System i) r = system_requests i

-- the accesses of an instruction, after the checks in their order: a stop where its position in the IT block isn't
-- allowed, else none where its condition fails, else those of its family
unfoldable pub plan : Traps → CodedInstruction → Registers → Result (List Request) Failure
plan traps i r =
    if is_misplaced i.place r.it_state then Err (Stop (Unpredictable ItBlock))
    else if is_carried_out i.instruction r then requests_of traps i.instruction r
    else Ok []

-- ---- what an instruction does

-- the registers and the ending after an instruction of this length that is carried out, for the values read, in the
-- order of its accesses
unfoldable pub effect : InstructionLength → Instruction → Registers → List ℕ → Finished
effect length (DataProcessing i) r values = data_processing_effect length i r
effect length (LoadStore i) r values = load_store_effect length i r values
effect length (LoadStoreMultiple i) r values = load_store_multiple_effect length i r values
effect length (Exclusive i) r values = exclusive_effect length i r values
effect length (Branch i) r values = branch_effect length i r values
effect length (System i) r values = system_effect length i r

-- an instruction whose condition fails moves on
unfoldable pub result_of : CodedInstruction → Registers → List ℕ → Finished
result_of i r values =
    if is_carried_out i.instruction r
    then effect i.length i.instruction r values
    else advances i.length r
