-- What accesses for the code that runs return and leave: a list of them, one of them, and the fetch of a halfword.
use Rattle.std.specs.Prelude.{◌≡◌, ℕ, ◌+◌, ◌≤◌, Bool, if◌then◌else◌, List, length}
use Rattle.std.specs.Prelude.{Option, Some, None, IfSome, Result, Ok, Err}
use Rattle.access.specs.KeptAccesses.{HasHalfword}
use Rattle.platform.specs.Bounded.{Bounded}
use Rattle.instruction_set.specs.Registers.{is_privileged}
use Rattle.platform.specs.declared.event.Event.{Event}
use Rattle.reference.specs.declared.failure.Failure.{Failure}
use Rattle.platform.specs.declared.access.Request.{Request}
use Rattle.reference.specs.Accesses.{ListResult, perform, perform_all, value_of}
use Rattle.reference.specs.Faults.{failed}
use Rattle.reference.specs.State.{State, Stepped, with_bus}
use Rattle.reference.specs.LoadStore.{fetch_at}
use Rattle.reference.specs.Step.{with_access_lines}
use Rattle.trace.specs.Emission.{Emission, with_emitted}

-- what accesses for the code that runs leave
abbrev pub performed_by : State → List Request → ListResult
performed_by s requests = perform_all s.registers.exception s.bus.system.time.ticks s.bus requests

-- the values that a list of accesses returned, or the failure that ended it early
abbrev pub AllPerformed : {A : Type 0} → ListResult → Bounded ℕ → Result A Failure → Type 0
AllPerformed all values (Ok done) = (all.failure ≡ None) × (values.items ≡ all.values)
AllPerformed all values (Err why) = all.failure ≡ Some why

-- the value of an access, if it was done
abbrev pub ok_value : Result ℕ Failure → Option ℕ
ok_value (Ok value) = Some value
ok_value (Err why) = None

-- the halfword of a fetch, if it was done
abbrev pub ok_if : Bool → ℕ → Option ℕ
ok_if done halfword = if done then Some halfword else None

-- the value of an access for the code that runs, or its failure
abbrev pub value_for : State → Request → Result ℕ Failure
value_for s q = value_of q (perform s.registers.exception s.bus q).performed

-- the step ends where an access failed
abbrev pub unless_failed : State → List Event → Result ℕ Failure → Stepped
unless_failed s events (Ok value) = record { state = s; events = events }
unless_failed s events (Err why) = failed s events why

-- the state and the lines after an access for the code that runs; if it failed, those at the end of the step
abbrev pub after_access : State → List Event → Request → Stepped
after_access s events q =
    let done = perform s.registers.exception s.bus q in
    unless_failed (with_bus s done.after) (with_access_lines s events q) (value_for s q)

-- a sink had these events and has taken those of a step since, and the step has left this state
pub record StepsTo {Sink : Type 0} (emitted : Sink → Emission) (old new : Sink) (left : State) (stepped : Stepped)
    : Type 0 where
  pub state : left ≡ stepped.state
  pub events : emitted new ≡ with_emitted (emitted old) stepped.events

-- likewise, of the rest of a step after the events that the sink had
abbrev pub ContinuesWith : {Sink : Type 0} → (Sink → Emission) → Sink → Sink → State → (List Event → Stepped) → Type 0
ContinuesWith emitted old new left rest = StepsTo emitted old new left (rest (emitted old).events)

-- the fetch of a halfword for the code that runs: `halfword` is what it read, if it was done. Then memory has it there,
-- and nothing but the lines has changed
pub record FetchesHalfword (old new : State) (start end : Emission) (address : ℕ) (halfword : Option ℕ) : Type 0 where
  pub answer : halfword ≡ ok_value (value_for old (fetch_at address (is_privileged old.registers)))
  pub there : IfSome halfword (λ h. HasHalfword old.bus.memory address h)
  pub same : IfSome halfword (λ h. new ≡ old)
  pub state : new ≡ (after_access old start.events (fetch_at address (is_privileged old.registers))).state
  pub events : end
      ≡ with_emitted start (after_access old start.events (fetch_at address (is_privileged old.registers))).events
  pub room : IfSome halfword (λ h. length end.events ≤ length start.events + 1)
