-- Why a run ends (profile).
use Rattle.std.specs.Prelude.{ℕ, ◌==◌, Bool, true, false, not, ◌&&◌, ◌||◌, nat_le, nat_lt, if◌then◌else◌}
use Rattle.std.specs.Prelude.{is_some, List, [], ◌∷◌, Option, Some, None}
use Rattle.std.specs.List.{list_any}
use Rattle.gdb.specs.declared.over.ReturnPoint.{ReturnPoint}
use Rattle.gdb.specs.Over.{is_back}
use Rattle.gdb_texts.specs.declared.settings.Settings.{Settings}
use Rattle.gdb_texts.specs.declared.actions.Resume.{Resume}
use Rattle.gdb_texts.specs.declared.actions.Resume.TheVariants as resume
use Rattle.gdb_texts.specs.declared.points.Breakpoint.{Breakpoint}
use Rattle.gdb_texts.specs.declared.points.BreakpointKind.{BreakpointKind}
use Rattle.gdb_texts.specs.declared.stops.StopReason.{StopReason}
use Rattle.gdb_texts.specs.declared.stops.StopReason.TheVariants as reason
use Rattle.gdb_texts.specs.declared.watchpoints.WatchHit.{WatchHit}
use Rattle.gdb_texts.specs.declared.watchpoints.Watchpoint.{Watchpoint}
use Rattle.gdb_texts.specs.Points.{kind_at}
use Rattle.gdb_texts.specs.Watchpoints.{hit_of}
use Rattle.machine.specs.NextStep.{is_instruction_next}
use Rattle.platform.specs.declared.access.Cause.{Cause}
use Rattle.platform.specs.declared.access.DecidedAccess.{DecidedAccess}
use Rattle.platform.specs.declared.event.Event.{Event}
use Rattle.platform.specs.declared.event.EventKind.{EventKind}
use Rattle.platform.specs.declared.event.EventKind.TheVariants.{Accessed, ConsoleByte, ReturnBegan, HandlerEntered}
use Rattle.platform.specs.declared.event.EventKind.TheVariants.{FaultRecorded}
use Rattle.platform.specs.declared.stop.Stop.{Stop}
use Rattle.platform.specs.declared.stop.Stop.TheVariants.{StepLimit}
use Rattle.platform.specs.Events.{access_of, recorded_fault_of}
use Rattle.debugger_commands.specs.declared.conditions.LineSelection.{LineSelection}
use Rattle.debugger_commands.specs.declared.conditions.LineSelection.TheVariants as lines
use Rattle.reference.specs.State.{State}
use Rattle.trace.specs.declared.selection.TraceSelection.{TraceSelection}
use Rattle.trace.specs.declared.selection.TraceSelection.TheVariants as which

-- ---- the events of a step

-- the selection of the trace with these lines
abbrev pub selection_of : LineSelection → TraceSelection
selection_of lines.All = which.All
selection_of lines.Refused = which.Refused
selection_of lines.Exceptions = which.Exceptions
selection_of lines.Console = which.Console
selection_of lines.Nothing = which.Nothing

abbrev pub refused_by : Option DecidedAccess → Option Cause
refused_by None = None
refused_by (Some a) = a.refused

-- what refused an access, where the event is a refused one
abbrev pub cause_of : EventKind → Option Cause
cause_of what = refused_by (access_of what)

abbrev pub cause_or : Option Cause → Option Cause → Option Cause
cause_or (Some cause) later = Some cause
cause_or None later = later

-- what refused the first access that was refused
unfoldable pub first_cause : List Event → Option Cause
first_cause [] = None
first_cause (e ∷ es) = cause_or (cause_of e.what) (first_cause es)

-- whether a fault was recorded
abbrev pub has_fault : List Event → Bool
has_fault events = list_any (λ e. is_some (recorded_fault_of e.what)) events

abbrev pub is_entry : EventKind → Bool
is_entry (Accessed a) = false
is_entry (ConsoleByte byte) = false
is_entry (ReturnBegan exc_return) = false
is_entry (HandlerEntered exception) = true
is_entry (FaultRecorded fault) = false

-- whether a handler was entered
abbrev pub has_entry : List Event → Bool
has_entry events = list_any (λ e. is_entry e.what) events

-- ---- watchpoints

-- what a granted access hits; a refused one hits none
abbrev pub hit_by_access : List Watchpoint → Option DecidedAccess → Option WatchHit
hit_by_access watchpoints None = None
hit_by_access watchpoints (Some a) = if is_some a.refused then None else hit_of watchpoints a.access

-- what an event hits, where it is an access
abbrev pub event_hit : List Watchpoint → EventKind → Option WatchHit
event_hit watchpoints what = hit_by_access watchpoints (access_of what)

abbrev pub hit_or : Option WatchHit → Option WatchHit → Option WatchHit
hit_or (Some hit) later = Some hit
hit_or None later = later

-- what the first access hits that hits a watchpoint
unfoldable pub first_hit : List Watchpoint → List Event → Option WatchHit
first_hit watchpoints [] = None
first_hit watchpoints (e ∷ es) = hit_or (event_hit watchpoints e.what) (first_hit watchpoints es)

abbrev pub watch_reason : Option WatchHit → Option StopReason
watch_reason None = None
watch_reason (Some hit) = Some (reason.Watchpoint hit.kind hit.address)

-- ---- after a step

abbrev pub refusal_reason : Option Cause → Option StopReason
refusal_reason None = None
refusal_reason (Some cause) = Some (reason.Refused cause)

-- a fault by an access is reported as the access
abbrev pub fault_reason : Option Cause → StopReason
fault_reason None = reason.Fault
fault_reason (Some cause) = reason.Refused cause

abbrev pub reason_or : Option StopReason → Option StopReason → Option StopReason
reason_or (Some r) later = Some r
reason_or None later = later

abbrev pub reason_if : Bool → StopReason → Option StopReason
reason_if b r = if b then Some r else None

-- where the settings stop at them: a refused access, a fault, a handler's entry, in this order
abbrev pub reason_of_events : Settings → List Event → Option StopReason
reason_of_events k events =
    reason_or (if k.refused then refusal_reason (first_cause events) else None)
    (reason_or (reason_if (k.faults && has_fault events) (fault_reason (first_cause events)))
    (reason_if (k.exceptions && has_entry events) reason.Entered))

-- whether a run that has made a unit ends where PC is: a step does, and a range once PC is outside of it
abbrev pub leaves : Resume → ℕ → Bool
leaves resume.Continue pc = false
leaves resume.Step pc = true
leaves (resume.Range first end) pc = nat_lt pc first || nat_le end pc

abbrev pub stop_reason : Option Stop → Option StopReason
stop_reason None = None
stop_reason (Some why) = Some (reason.Stopped why)

-- why a run ends after a step, which was an Instruction step or not. A unit is done by an Instruction step and by one
-- that enters a handler, unless it is away from the code that it returns to
abbrev pub reason_after : Settings → Resume → Bool → Bool → List Event → Option Stop → ℕ → Option StopReason
reason_after k how is_away was_instruction events stop pc =
    reason_or (stop_reason stop)
    (reason_or (reason_of_events k events)
    (reason_if (not is_away && ((was_instruction || has_entry events) && leaves how pc)) reason.Done))

-- ---- before a step

abbrev pub is_continue : Resume → Bool
is_continue resume.Continue = true
is_continue resume.Step = false
is_continue (resume.Range first end) = false

-- breakpoints are tested before each step but the first one of a step or a range
abbrev pub tests_breakpoints : Resume → ℕ → Bool
tests_breakpoints how made = nat_lt 0 made || is_continue how

abbrev pub breakpoint_reason : Option BreakpointKind → Bool → Option StopReason
breakpoint_reason None is_instruction = None
breakpoint_reason (Some kind) is_instruction = reason_if is_instruction (reason.Breakpoint kind)

-- a breakpoint at the next instruction
abbrev pub reason_at_breakpoint : List Breakpoint → State → Option StopReason
reason_at_breakpoint points s = breakpoint_reason (kind_at points s.registers.pc) (is_instruction_next s)

-- in the code that a unit returns to: the instruction that was interrupted is made, without a test of breakpoints. At
-- another one the unit is done, and where that ends no range, a breakpoint there is tested
abbrev pub reason_back : List Breakpoint → Resume → State → ReturnPoint → Option StopReason
reason_back points how s point =
    if s.registers.pc == point.pc then None
    else reason_or (reason_if (leaves how s.registers.pc) reason.Done) (reason_at_breakpoint points s)

-- at the next step of a unit that returns to a point, or to none
abbrev pub reason_in_unit : List Breakpoint → Resume → ℕ → State → Option ReturnPoint → Option StopReason
reason_in_unit points how made s None = if tests_breakpoints how made then reason_at_breakpoint points s else None
reason_in_unit points how made s (Some point) =
    if is_back s point then reason_back points how s point else reason_at_breakpoint points s

-- why a run with these breakpoints, to a tick, ends before its next step: the machine has stopped, the clock is at the
-- limit, a breakpoint, or a unit that is done where it returned
abbrev pub reason_before : List Breakpoint → ℕ → Resume → ℕ → Option ReturnPoint → State → Option StopReason
reason_before points limit how made returns_to s =
    reason_or (reason_if (is_some s.stop) reason.StoppedBefore)
    (reason_or (reason_if (nat_le limit s.bus.system.time.ticks) (reason.Stopped StepLimit))
    (reason_in_unit points how made s returns_to))
