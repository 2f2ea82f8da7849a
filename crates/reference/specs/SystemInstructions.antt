-- The instructions for special registers, the hints, SVC and BKPT (ARM DDI 0403, the operation of CPS, MSR, MRS, SVC,
-- BKPT, WFI and the other hints): none makes an access, and what each does besides advancing the PC is its ending.
use Rattle.std.specs.Prelude.{Bool, true, false, List, [], Result, Ok}
use Rattle.instruction_set.specs.declared.system.Hint.{Hint}
use Rattle.instruction_set.specs.declared.system.Hint.TheVariants as hint
use Rattle.instruction_set.specs.declared.instruction.InstructionLength.{InstructionLength}
use Rattle.instruction_set.specs.declared.system.System.{System}
use Rattle.instruction_set.specs.declared.system.System.TheVariants as system
use Rattle.instruction_set.specs.Registers.{Registers, register}
use Rattle.platform.specs.declared.access.Request.{Request}
use Rattle.reference.specs.declared.ending.Ending.{Ending}
use Rattle.reference.specs.declared.ending.Ending.TheVariants as ending
use Rattle.reference.specs.declared.failure.Failure.{Failure}
use Rattle.reference.specs.ProgramCounter.{Finished, advances}

-- whether an instruction has no condition, not even that of an IT block: BKPT
abbrev pub has_no_condition : System → Bool
has_no_condition (system.ChangeProcessorState o) = false
has_no_condition (system.MoveToSpecial o) = false
has_no_condition (system.MoveFromSpecial o) = false
has_no_condition (system.Hint hint) = false
has_no_condition (system.SupervisorCall number) = false
has_no_condition (system.Breakpoint number) = true

-- no access, and none of these stops before it is carried out
abbrev pub system_requests : System → Result (List Request) Failure
system_requests (system.ChangeProcessorState o) = Ok []
system_requests (system.MoveToSpecial o) = Ok []
system_requests (system.MoveFromSpecial o) = Ok []
system_requests (system.Hint hint) = Ok []
system_requests (system.SupervisorCall number) = Ok []
system_requests (system.Breakpoint number) = Ok []

-- WFI sleeps; all other hints do nothing (profile)
abbrev pub hint_ending : Hint → Ending
hint_ending hint.NoOperation = ending.Next
hint_ending hint.Yield = ending.Next
hint_ending hint.WaitForEvent = ending.Next
hint_ending hint.WaitForInterrupt = ending.Sleep
hint_ending hint.SendEvent = ending.Next
hint_ending hint.Debug = ending.Next
hint_ending hint.Preload = ending.Next
hint_ending hint.Barrier = ending.Next
hint_ending hint.Unallocated = ending.Next

-- the PC moves past the instruction, which ends with e
abbrev pub advances_and : Ending → InstructionLength → Registers → Finished
advances_and e length r = record (advances length r) { ending = e }

-- SVC and BKPT leave the PC where it is; `supervisor_called` moves it past SVC where SVCall becomes pending
unfoldable pub system_effect : InstructionLength → System → Registers → Finished
system_effect length (system.ChangeProcessorState o) r = advances_and (ending.ChangeState o) length r
system_effect length (system.MoveToSpecial o) r =
    advances_and (ending.WriteSpecial o.special (register r o.source)) length r
system_effect length (system.MoveFromSpecial o) r = advances_and (ending.ReadSpecial o) length r
system_effect length (system.Hint hint) r = advances_and (hint_ending hint) length r
system_effect length (system.SupervisorCall number) r = record { registers = r; ending = ending.SupervisorCall number }
system_effect length (system.Breakpoint number) r = record { registers = r; ending = ending.Breakpoint number }
