-- The answer to `task n` as a run of a task: its steps are counted.
use Rattle.std.proofs.Common.{◌≡◌, ℕ, zero, suc, ◌+◌, ◌<◌, ◌≤◌, Bool, true, false, List, [], ◌∷◌, ◌++◌, Option}
use Rattle.std.proofs.Common.{Some, None, refl, sym, ◌∙◌, ap, subst, append_assoc, arith, below_more}
use Rattle.std.proofs.lemmas.List.{append-nil}
use Rattle.debugger.proofs.Chosen.{text-append}
use Rattle.debugger.specs.Answers.{step_piece, task_on, task_piece, task_text}
use Rattle.debugger.specs.Laws.{TaskLaw}
use Rattle.debugger_commands.specs.Conditions.{written}
use Rattle.debugger_commands.specs.Settings.{Settings, without_conditions}
use Rattle.target.proofs.Running.{after_more, events_more, none_made}
use Rattle.target.specs.NextStep.{is_instruction_next}
use Rattle.target.specs.Endings.{end_of}
use Rattle.platform.specs.declared.stop.Stop.{Stop}
use Rattle.reference.specs.Run.{after, events_of}
use Rattle.reference.specs.State.{State}
use Rattle.reference.specs.Step.{step}
use Rattle.platform.specs.Events.{lines}
use Rattle.task_laws.specs.declared.task.TaskEnd.{TaskEnd}
use Rattle.task_laws.specs.Tasks.{AreInstructions, EndsTask}
use Rattle.serving.specs.Pieces.{Piece, last_state, texts}

-- the lines of no step, and of one step more
none_shown : (k : Settings) (s : State) → lines (written k (events_of 0 s)) ≡ []
unfolding events_of lines
none_shown k s = refl

shown_more : (k : Settings) (n : ℕ) (s : State)
    → lines (written k (events_of (n + 1) s))
    ≡ lines (written k (events_of n s)) ++ lines (written k (step (after n s)).events)
shown_more k n s = rw (events_more n s) (text-append k (events_of n s) (step (after n s)).events)

-- the pieces after the first m steps of a run of at most `all` steps
record RanFrom (k : Settings) (all m : ℕ) (s : State) (pieces : List Piece) : Type 0 where
  steps : ℕ
  end : TaskEnd
  few : steps ≤ all
  instructions : AreInstructions steps s
  ends : EndsTask all steps (after steps s) end
  state : last_state (after m s) pieces ≡ after steps s
  text : lines (written k (events_of m s)) ++ texts pieces
      ≡ lines (written k (events_of steps s)) ++ task_text end

-- all steps were made
ends_all : (all m : ℕ) (last : State) (o : Option Stop) → last.stop ≡ o → m ≡ all → EndsTask all m last (end_of o false)
ends_all all m last (Some why) e same = e
ends_all all m last None e same = (same, e)

-- the next step isn't an Instruction step
ends_before : (all m : ℕ) (last : State) (o : Option Stop) → last.stop ≡ o → m < all
    → is_instruction_next last ≡ false → EndsTask all m last (end_of o true)
ends_before all m last (Some why) e few other = e
ends_before all m last None e few other = (few, e, other)

-- only the end is left
ends_here : (k : Settings) (all m : ℕ) (s : State) (left : Bool) → m ≤ all → AreInstructions m s
    → EndsTask all m (after m s) (end_of (after m s).stop left)
    → RanFrom k all m s (task_piece (after m s) (end_of (after m s).stop left) ∷ [])
ends_here k all m s left few made ends = record {
  steps = m;
  end = end_of (after m s).stop left;
  few = few;
  instructions = made;
  ends = ends;
  state = refl;
  text = rw append-nil refl;
}

-- a step comes before them
one_before : (k : Settings) (all m : ℕ) (s : State) (rest : State → List Piece)
    → RanFrom k all (m + 1) s (rest (after (m + 1) s))
    → RanFrom k all m s (step_piece k (after m s) ∷ rest (step (after m s)).state)
one_before k all m s rest ran =
    let now : RanFrom k all (m + 1) s (rest (step (after m s)).state) =
    subst (λ (u : State). RanFrom k all (m + 1) s (rest u)) (after_more m s) ran in
    let later : List Piece = rest (step (after m s)).state in
    record {
      steps = now.steps;
      end = now.end;
      few = now.few;
      instructions = now.instructions;
      ends = now.ends;
      state = ap (λ (u : State). last_state u later) (sym (after_more m s)) ∙ now.state;
      text = sym (append_assoc (lines (written k (events_of m s))) (lines (written k (step (after m s)).events))
          (texts later))
          ∙ ap (λ (xs : List ℕ). xs ++ texts later) (sym (shown_more k m s)) ∙ now.text;
    }

on_none : (k : Settings) (s : State) → task_on k zero s ≡ task_piece s (end_of s.stop false) ∷ []
unfolding task_on
on_none k s = refl

on_other : (k : Settings) (n : ℕ) (s : State) → is_instruction_next s ≡ false
    → task_on k (suc n) s ≡ task_piece s (end_of s.stop true) ∷ []
unfolding task_on
on_other k n s e = rw e refl

on_step : (k : Settings) (n : ℕ) (s : State) → is_instruction_next s ≡ true
    → task_on k (suc n) s ≡ step_piece k s ∷ task_on k n (step s).state
unfolding task_on
on_step k n s e = rw e refl

ran_on : (k : Settings) (n m all : ℕ) (s : State) → m + n ≡ all → AreInstructions m s
    → RanFrom k all m s (task_on k n (after m s))
ran_on k zero m all s sum made =
    subst (λ (ps : List Piece). RanFrom k all m s ps) (sym (on_none k (after m s)))
    (ends_here k all m s false (omega arith) made (ends_all all m (after m s) (after m s).stop refl (omega arith)))
ran_on k (suc n) m all s sum made =
    split (is_instruction_next (after m s)) refl (λ more. ran_on k n (m + 1) all s (omega arith) more)
  where
    split : (b : Bool) → is_instruction_next (after m s) ≡ b
        → (AreInstructions (m + 1) s → RanFrom k all (m + 1) s (task_on k n (after (m + 1) s)))
        → RanFrom k all m s (task_on k (suc n) (after m s))
    split true e on =
        subst (λ (ps : List Piece). RanFrom k all m s ps) (sym (on_step k n (after m s) e))
        (one_before k all m s (task_on k n) (on (below_more _ _ made e)))
    split false e on =
        subst (λ (ps : List Piece). RanFrom k all m s ps) (sym (on_other k n (after m s) e))
        (ends_here k all m s true (omega arith) made
        (ends_before all m (after m s) (after m s).stop refl (omega arith) e))

pub task_law : (chosen : Settings) (n : ℕ) (s : State) → TaskLaw chosen n s
task_law chosen n s runs =
    let k = without_conditions chosen in
    let ran : RanFrom k n 0 s (task_on k n (after 0 s)) =
    ran_on k n 0 n s (omega arith) (λ j below. absurd (let none : ⊥ = omega arith in none)) in
    let now : RanFrom k n 0 s (task_on k n s) =
    subst (λ (u : State). RanFrom k n 0 s (task_on k n u)) (none_made s) ran in
    rw runs
    (record {
      steps = now.steps;
      end = now.end;
      few = now.few;
      instructions = now.instructions;
      ends = now.ends;
      state = ap (λ (u : State). last_state u (task_on k n s)) (sym (none_made s)) ∙ now.state;
      text = ap (λ (xs : List ℕ). xs ++ texts (task_on k n s)) (sym (none_shown k s)) ∙ now.text;
    })
