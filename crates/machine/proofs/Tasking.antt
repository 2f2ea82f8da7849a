-- Runs of a task: one Instruction step more, and how they end.
use Rattle.std.proofs.Common.{◌≡◌, ◌⊎◌, inl, inr, ℕ, ◌+◌, ◌-◌, ◌<◌, ◌≤◌, nat_lt, Bool, true, false, List, Option, Some}
use Rattle.std.proofs.Common.{None, refl, sym, subst, arith, below_more}
use Rattle.std.proofs.lemmas.Bool.Decides.{nat_tests}
use Rattle.std.proofs.KnownBytes.{Appends-nil}
use Rattle.std.specs.Io.KnownBytes.{Appends}
use Rattle.machine.proofs.Running.{cut_after, none_made, none_shown, steps_lines}
use Rattle.machine.specs.Tasks.{TaskIsCut, TaskRuns}
use Rattle.output.specs.Output.{IsCutAfter, IsCutShort, Writing}
use Rattle.platform.specs.declared.event.Event.{Event}
use Rattle.platform.specs.declared.stop.Stop.{Stop}
use Rattle.reference.specs.Run.{after, events_of}
use Rattle.reference.specs.State.{State}
use Rattle.reference.specs.Step.{step}
use Rattle.platform.specs.Events.{lines}
use Rattle.target.specs.Endings.{end_of}
use Rattle.task_laws.specs.declared.task.TaskEnd.TheVariants as task_end
use Rattle.task_laws.specs.NextStep.{is_instruction_next}
use Rattle.task_laws.specs.Tasks.{AreInstructions, EndsTask}
use Rattle.trace.specs.Selection.{steps_text}

-- one Instruction step more was made
pub instruction_on : (n : ℕ) (s core : State) → AreInstructions n s → core ≡ after n s
    → is_instruction_next core ≡ true → AreInstructions (n + 1) s
instruction_on n s core made now next =
    below_more _ _ made (subst (λ (u : State). is_instruction_next u ≡ true) now next)

-- why the run ends, by the stop and by whether steps are left
ends_by : (n steps : ℕ) (core : State) (stop : Option Stop) (left : Bool) → core.stop ≡ stop → nat_lt steps n ≡ left
    → steps ≤ n → (n ≤ steps) ⊎ (is_instruction_next core ≡ false) → EndsTask n steps core (end_of stop left)
ends_by n steps core (Some why) left e f few ends = e
ends_by n steps core None true e f few (inl all) = absurd (grind (arith, nat_tests, f, all))
ends_by n steps core None true e f few (inr other) = (grind (arith, nat_tests, f), e, other)
ends_by n steps core None false e f few ends = (grind (arith, nat_tests, f, few), e)

pub ends_so : (n steps : ℕ) (core : State) → steps ≤ n → (n ≤ steps) ⊎ (is_instruction_next core ≡ false)
    → EndsTask n steps core (end_of core.stop (nat_lt steps n))
ends_so n steps core few ends = ends_by n steps core core.stop _ refl refl few ends

-- a stopped machine makes no step
pub stopped_before : (n : ℕ) (s : State) (old : Writing) (why : Stop) → s.stop ≡ Some why
    → TaskRuns n s old old s (task_end.Stopped why)
stopped_before n s old why e = record {
  steps = 0;
  few = omega arith;
  instructions = λ k below. absurd (let none : ⊥ = omega arith in none);
  state = sym (none_made s);
  written = rw (none_shown s) (Appends-nil old.written);
  ends = e;
}

pub not_both : (o : Option Stop) (why : Stop) → o ≡ Some why → o ≡ None → ⊥
not_both o why e f = cc

-- the lines of a step were cut short
pub task_is_cut : (old mid new : Writing) (limit n : ℕ) (s core last : State) (shown : List Event) → n < limit
    → AreInstructions (n + 1) s → last ≡ after (n + 1) s → Appends old.written mid.written (lines (events_of n s))
    → IsCutShort mid.written new.written (lines shown) → shown ≡ (step core).events → core ≡ after n s
    → TaskIsCut limit s old new last (n + 1)
task_is_cut old mid new limit n s core last shown few made state written cut same now =
    let back : n + 1 - 1 ≡ n = omega arith in
    let whole : IsCutAfter old.written new.written (steps_text lines n s) (lines (step (after n s)).events) =
    rw (← now, ← same, steps_lines n s)
    (cut_after old.written mid.written new.written (lines (events_of n s)) (lines shown) written cut) in
    record { few = omega arith; instructions = made; state = state; cut = (omega arith, rw back whole) }
