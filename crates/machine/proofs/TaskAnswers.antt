-- Two runs by `run_task` of machines whose states look the same: from what its contract says to the law of two runs.
use Rattle.std.proofs.Common.{◌≡◌, ℕ, Bool, true, false, ◌||◌, is_some, List, [], Option, Some, None, refl, sym}
use Rattle.std.proofs.Common.{◌∙◌, ap, subst, arith}
use Rattle.std.proofs.lemmas.List.{append-nil}
use Rattle.std.specs.Io.KnownBytes.{Appends, Keeps}
use Rattle.machine.proofs.Running.{none_made, none_shown}
use Rattle.machine.specs.TaskRunLaw.{IsTaskRun, Makes, RanAlike, TaskRun, TaskRunsLaw}
use Rattle.machine.specs.Tasks.{TaskEnds, TaskRuns}
use Rattle.target.specs.MachineModel.{MachineModel}
use Rattle.platform.specs.declared.event.Event.{Event}
use Rattle.platform.specs.declared.stop.Stop.{Stop}
use Rattle.platform.specs.Events.{lines}
use Rattle.reference.specs.Invariant.{Invariant}
use Rattle.reference.specs.Run.{after, events_of}
use Rattle.reference.specs.State.{State}
use Rattle.task_laws.specs.declared.task.TaskEnd.{TaskEnd}
use Rattle.task_laws.specs.declared.task.TaskEnd.TheVariants as task_end
use Rattle.task_laws.specs.Sight.{Same}
use Rattle.task_laws.specs.TaskLaw.{EndsAfter}
use Rattle.task_laws.specs.Tasks.{AreInstructions, EndsTask, is_task}
use Rattle.task_laws.proofs.Endings.{two_runs_law}

-- whether a call makes steps or has the answer of a stopped machine
abbrev runs : State → Bool
runs s = is_some s.stop || is_task s

-- two states that look the same agree on that
runs_there : (s t : State) → Same s t → runs t ≡ runs s
runs_there s t same = ap runs same.rest

-- ---- no task runs

record MadeNone (r : TaskRun) : Type 0 where
  answer : r.end ≡ task_end.NotTask
  state : r.new ≡ r.old
  written : Keeps r.before.written r.later.written

neither : (o : Option Stop) (task : Bool) → is_some o || task ≡ false → (o ≡ None) × (task ≡ false)
neither None task e = (refl, e)
neither (Some why) task e = absurd cc

made_none : (n : ℕ) (r : TaskRun) → runs r.old.state ≡ false → IsTaskRun n r → MadeNone r
made_none n r other ran = split r.end refl ran
  where
    both : (r.old.state.stop ≡ None) × (is_task r.old.state ≡ false)
    both = neither r.old.state.stop (is_task r.old.state) other

    split : (x : TaskEnd) → r.end ≡ x → TaskEnds n r.old r.new r.before r.later x → MadeNone r
    split task_end.NotTask e ran = record { answer = e; state = ran.2; written = ran.3 }
    split task_end.Done e ran = let no = both.1 in let yes = ran.0 in absurd cc
    split task_end.Other e ran = let no = both.1 in let yes = ran.0 in absurd cc
    split (task_end.Stopped why) e ran = let no = both.1 in let yes = ran.0 both.0 in absurd cc

appends_none : (old new : Option (List ℕ)) → Keeps old new → Appends old new []
appends_none None new kept = tt
appends_none (Some xs) None kept = absurd kept
appends_none (Some xs) (Some ys) kept = kept ∙ sym (append-nil xs)

-- it made no step
makes_none : (s : State) (r : TaskRun) → MadeNone r → Makes 0 (lines (events_of 0 s)) r
makes_none s r none = record {
  instructions = λ k below. absurd (let w : ⊥ = omega arith in w);
  state = ap (λ (w : MachineModel). w.state) none.state ∙ sym (none_made r.old.state);
  written =
      subst (λ (text : List ℕ). Appends r.before.written r.later.written text) (sym (none_shown s))
      (appends_none _ _ none.written);
}

alike_none : (one two : TaskRun) → Same one.old.state two.old.state → MadeNone one → MadeNone two → RanAlike one two
alike_none one two same a b = record {
  end = b.answer ∙ sym a.answer;
  steps = 0;
  here = makes_none one.old.state one a;
  there = makes_none one.old.state two b;
  same =
      subst (λ (v : MachineModel). Same v.state two.new.state) (sym a.state)
      (subst (λ (w : MachineModel). Same one.old.state w.state) (sym b.state) same);
}

-- ---- a task runs, or the machine has stopped

abbrev Run : ℕ → TaskRun → Type 0
Run n r = TaskRuns n r.old.state r.before r.later r.new.state r.end

neither_runs : (o : Option Stop) (task : Bool) → o ≡ None → task ≡ false → is_some o || task ≡ true → ⊥
neither_runs o task e f g = let no = rw (e, f) at g in absurd cc

made_some : (n : ℕ) (r : TaskRun) → runs r.old.state ≡ true → IsTaskRun n r → Run n r
made_some n r some ran = split r.end ran
  where
    split : (x : TaskEnd) → TaskEnds n r.old r.new r.before r.later x
        → TaskRuns n r.old.state r.before r.later r.new.state x
    split task_end.NotTask ran = absurd (neither_runs r.old.state.stop (is_task r.old.state) ran.0 ran.1 some)
    split task_end.Done ran = ran.1
    split task_end.Other ran = ran.1
    split (task_end.Stopped why) ran = ran.1

ends_after : (n : ℕ) (r : TaskRun) (run : Run n r) → EndsAfter n r.old.state run.steps r.end
ends_after n r run = record {
  few = run.few;
  instructions = run.instructions;
  ends = subst (λ (u : State). EndsTask n run.steps u r.end) run.state run.ends;
}

alike_some : (n : ℕ) (one two : TaskRun) → Invariant one.old.state → Same one.old.state two.old.state
    → runs one.old.state ≡ true → Run n one → Run n two → RanAlike one two
alike_some n one two inv same some a b =
    let alike =
    two_runs_law n one.old.state two.old.state a.steps b.steps one.end two.end inv some same (ends_after n one a)
    (ends_after n two b) in
    record {
      end = alike.end;
      steps = a.steps;
      here = record { instructions = a.instructions; state = a.state; written = a.written };
      there = record {
        instructions = subst (λ (k : ℕ). AreInstructions k two.old.state) alike.steps b.instructions;
        state = subst (λ (k : ℕ). two.new.state ≡ after k two.old.state) alike.steps b.state;
        written =
            subst (λ (es : List Event). Appends two.before.written two.later.written (lines es)) alike.events
            b.written;
      };
      same =
          subst (λ (u : State). Same u two.new.state) (sym a.state)
          (subst (λ (u : State). Same (after a.steps one.old.state) u) (sym b.state) alike.same);
    }

pub task_runs_law : (n : ℕ) (one two : TaskRun) → TaskRunsLaw n one two
task_runs_law n one two inv same first second = split (runs one.old.state) refl
  where
    split : (b : Bool) → runs one.old.state ≡ b → RanAlike one two
    split true e =
        alike_some n one two inv same e (made_some n one e first)
        (made_some n two (runs_there _ _ same ∙ e) second)
    split false e =
        alike_none one two same (made_none n one e first) (made_none n two (runs_there _ _ same ∙ e) second)
