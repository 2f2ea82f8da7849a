-- What a run did, counted: a fold over the events of the reference machine's steps.
use Rattle.std.specs.Prelude.{ℕ, zero, suc, List, [], ◌∷◌, Option, Some, None}
use Rattle.instruction_set.specs.Registers.{is_privileged}
use Rattle.platform.specs.declared.access.DecidedAccess.{DecidedAccess}
use Rattle.platform.specs.declared.event.Event.{Event}
use Rattle.platform.specs.declared.event.EventKind.{EventKind}
use Rattle.platform.specs.declared.event.RecordedFault.{RecordedFault}
use Rattle.platform.specs.declared.stop.Stop.{Stop}
use Rattle.platform.specs.Events.{access_of, byte_of, recorded_fault_of}
use Rattle.reference.specs.Run.{after}
use Rattle.reference.specs.State.{State}
use Rattle.reference.specs.Step.{step}
use Rattle.survey.specs.declared.step_start.StepStart.{StepStart}
use Rattle.survey.specs.declared.survey.Survey.{Survey}
use Rattle.survey.specs.Cells.{with_touch}
use Rattle.survey.specs.CodeCounts.{with_fetch}
use Rattle.survey.specs.Console.{with_any_byte}
use Rattle.survey.specs.Counts.{one_more, with_access}
use Rattle.survey.specs.Faults.{with_any_fault, with_decided, with_end}
use Rattle.survey.specs.Settings.{with_decision}
use Rattle.survey.specs.Timeline.{with_accessed_mark, with_tick}

-- what a survey takes from the state in which a step begins
unfoldable pub step_start_of : State → StepStart
step_start_of s = record {
  pc = s.registers.pc;
  exception = s.registers.exception;
  privileged = is_privileged s.registers;
  asleep = s.asleep;
  mpu = s.bus.system.mpu;
}

-- a survey after an access of a step that began at a moment
abbrev pub with_accessed : StepStart → Survey → DecidedAccess → Survey
with_accessed m v d = record v {
  counts = with_access v.counts d;
  settings = with_decision m.mpu v.settings d;
  faults = with_decided v.faults d;
  flash = with_touch v.flash d;
  ram = with_touch v.ram d;
  flash_code = with_fetch m.pc v.flash_code d;
  ram_code = with_fetch m.pc v.ram_code d;
  timeline = with_accessed_mark v.timeline d;
}

-- a survey after an event that is no access: a byte that was printed, a fault that was recorded, or neither
abbrev pub with_other : StepStart → Survey → ℕ → Option ℕ → Option RecordedFault → Survey
with_other m v tick byte fault =
    record v { console = with_any_byte v.console byte; faults = with_any_fault m.pc v.faults tick fault }

-- a survey after an event, by its access or else its byte or its fault
abbrev pub with_parts : StepStart → Survey → ℕ → Option DecidedAccess → Option ℕ → Option RecordedFault → Survey
with_parts m v tick None byte fault = with_other m v tick byte fault
with_parts m v tick (Some d) byte fault = with_accessed m v d

-- a survey after an event of a step that began at a moment
unfoldable pub with_event : StepStart → Survey → ℕ → EventKind → Survey
with_event m v tick what = with_parts m v tick (access_of what) (byte_of what) (recorded_fault_of what)

-- a survey after events of such a step, in their order
abbrev pub with_events : StepStart → Survey → List Event → Survey
with_events m v [] = v
with_events m v (e ∷ es) = with_events m (with_event m v e.tick e.what) es

-- a survey when a step begins at a moment
abbrev pub with_step_begun : StepStart → Survey → Survey
with_step_begun m v = record v { timeline = with_tick v.timeline m; steps = one_more v.steps }

-- a survey at the end of a step
abbrev pub with_step_end : Survey → Survey
with_step_end v = record v { faults = with_end v.faults }

-- a survey after the step of a machine that hasn't stopped
abbrev pub with_made_step : State → Survey → Survey
with_made_step s v = with_step_end (with_events (step_start_of s) (with_step_begun (step_start_of s) v) (step s).events)

-- a machine that has stopped makes no step
abbrev pub unless_stopped : State → Survey → Option Stop → Survey
unless_stopped s v None = with_made_step s v
unless_stopped s v (Some why) = v

-- a survey after one more step, from a state
unfoldable pub with_step : State → Survey → Survey
with_step s v = unless_stopped s v s.stop

-- a survey after n steps from a state
unfoldable pub surveyed : ℕ → State → Survey → Survey
surveyed zero s v = v
surveyed (suc n) s v = with_step (after n s) (surveyed n s v)
