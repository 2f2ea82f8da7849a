-- The answers to `task n` from two states that look the same to a task.
use Rattle.std.proofs.Common.{◌≡◌, ℕ, Bool, true, false, ◌||◌, is_some, List, ◌++◌, refl, sym, ◌∙◌, ap, subst}
use Rattle.debugger.specs.Answers.{task_pieces, task_text}
use Rattle.debugger.specs.Laws.{SayTheSame, SaysHowItRan, TaskAnswersLaw}
use Rattle.debugger_commands.specs.Conditions.{written}
use Rattle.debugger_commands.specs.Settings.{Settings, without_conditions}
use Rattle.debugger.proofs.TaskRuns.{task_law}
use Rattle.platform.specs.declared.event.Event.{Event}
use Rattle.platform.specs.Events.{lines}
use Rattle.reference.specs.Invariant.{Invariant}
use Rattle.reference.specs.Run.{after, events_of}
use Rattle.reference.specs.State.{State}
use Rattle.task_laws.specs.declared.task.TaskEnd.{TaskEnd}
use Rattle.task_laws.specs.Sight.{Same}
use Rattle.task_laws.specs.TaskLaw.{EndsAfter}
use Rattle.task_laws.specs.Tasks.{is_task}
use Rattle.task_laws.proofs.Endings.{two_runs_law}
use Rattle.serving.specs.Pieces.{Piece, last_state}

-- whether a command makes steps or has the answer of a stopped machine
abbrev runs : State → Bool
runs s = is_some s.stop || is_task s

-- a run that an answer tells
ends_after : (k : Settings) (n : ℕ) (s : State) (ps : List Piece) (says : SaysHowItRan k n s ps)
    → EndsAfter n s says.steps says.end
ends_after k n s ps says = record { few = says.few; instructions = says.instructions; ends = says.ends }

-- two such answers
say_the_same : (k : Settings) (n : ℕ) (s t : State) (one two : List Piece) → Invariant s → runs s ≡ true → Same s t
    → SaysHowItRan k n s one → SaysHowItRan k n t two → SayTheSame s t one two
say_the_same k n s t one two inv some same a b =
    let alike =
    two_runs_law n s t a.steps b.steps a.end b.end inv some same (ends_after k n s one a) (ends_after k n t two b) in
    record {
      text =
          b.text ∙ ap (λ (es : List Event). lines (written (without_conditions k) es) ++ task_text b.end) alike.events
          ∙ ap
          (λ (end : TaskEnd). lines (written (without_conditions k) (events_of a.steps s)) ++ task_text end) alike.end
          ∙ sym a.text;
      same =
          subst (λ (u : State). Same u (last_state t two)) (sym a.state)
          (subst (λ (u : State). Same (after a.steps s) u) (sym b.state) alike.same);
    }

-- two answers that no task runs
not_tasks : (k : Settings) (n : ℕ) (s t : State) → runs s ≡ false → runs t ≡ false → Same s t
    → SayTheSame s t (task_pieces k n s) (task_pieces k n t)
not_tasks k n s t e f same = rw (e, f) (record { text = refl; same = same })

pub task_answers_law : (k : Settings) (n : ℕ) (s t : State) → TaskAnswersLaw k n s t
task_answers_law k n s t inv same = split (runs s) refl
  where
    there : runs t ≡ runs s
    there = ap runs same.rest

    split : (b : Bool) → runs s ≡ b → SayTheSame s t (task_pieces k n s) (task_pieces k n t)
    split true e = say_the_same k n s t _ _ inv e same (task_law k n s e) (task_law k n t (there ∙ e))
    split false e = not_tasks k n s t e (there ∙ e) same
