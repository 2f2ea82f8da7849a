-- How a run of a task ends is determined by the state before it: where it ended, no further step is an Instruction step
-- within the limit.
use Rattle.std.proofs.Common.{◌≡◌, ℕ, zero, suc, ◌<◌, ◌≤◌, true, false, ◌||◌, is_some, Option}
use Rattle.std.proofs.Common.{Some, None, refl, sym, ap, subst}
use Rattle.std.proofs.Common.{arith}
use Rattle.platform.specs.declared.stop.Stop.{Stop}
use Rattle.reference.specs.Invariant.{Invariant}
use Rattle.reference.specs.Run.{after, events_of}
use Rattle.reference.specs.State.{State}
use Rattle.task_laws.specs.declared.task.TaskEnd.{TaskEnd}
use Rattle.task_laws.specs.declared.task.TaskEnd.TheVariants as task_end
use Rattle.task_laws.specs.NextStep.{is_instruction, is_instruction_next, kind_unless_stopped}
use Rattle.task_laws.specs.Sight.{Same}
use Rattle.task_laws.specs.TaskLaw.{EndsAfter, EndsInOneWay, TwoRunsLaw}
use Rattle.task_laws.specs.Tasks.{AreInstructions, EndsTask, is_task}
use Rattle.task_laws.proofs.Laws.{end_there, end_law, run_law}

-- a stopped machine makes no Instruction step
stopped_makes_none : (s : State) (why : Stop) → s.stop ≡ Some why → is_instruction_next s ≡ false
stopped_makes_none s why e = ap (λ (o : Option Stop). is_instruction (kind_unless_stopped s o)) e

-- ---- one state

-- a run that ended makes no further step
ends_here : (n a b : ℕ) (s : State) (x : TaskEnd) → EndsAfter n s a x → a < b → b ≤ n → AreInstructions b s → ⊥
ends_here n a b s x one fewer few made = none x one.ends
  where
    none : (x : TaskEnd) → EndsTask n a (after a s) x → ⊥
    none task_end.Done e = let same : a ≡ n = e.0 in omega arith
    none task_end.Other e = let other = e.2 in let more = made a fewer in absurd cc
    none task_end.NotTask e = e
    none (task_end.Stopped why) e =
        let other = stopped_makes_none (after a s) why e in let more = made a fewer in absurd cc

-- after equally many steps it ended for one reason
one_reason : (n a : ℕ) (last : State) (x y : TaskEnd) → EndsTask n a last x → EndsTask n a last y → x ≡ y
one_reason n a last task_end.Done task_end.Done e f = refl
one_reason n a last task_end.Done task_end.Other e f =
    let all : a ≡ n = e.0 in let few : a < n = f.0 in absurd (omega arith)
one_reason n a last task_end.Done task_end.NotTask e f = absurd f
one_reason n a last task_end.Done (task_end.Stopped why) e f = let none = e.1 in absurd cc
one_reason n a last task_end.Other task_end.Done e f =
    let all : a ≡ n = f.0 in let few : a < n = e.0 in absurd (omega arith)
one_reason n a last task_end.Other task_end.Other e f = refl
one_reason n a last task_end.Other task_end.NotTask e f = absurd f
one_reason n a last task_end.Other (task_end.Stopped why) e f = let none = e.1 in absurd cc
one_reason n a last task_end.NotTask y e f = absurd e
one_reason n a last (task_end.Stopped why) task_end.Done e f = let none = f.1 in absurd cc
one_reason n a last (task_end.Stopped why) task_end.Other e f = let none = f.1 in absurd cc
one_reason n a last (task_end.Stopped why) task_end.NotTask e f = absurd f
one_reason n a last (task_end.Stopped why) (task_end.Stopped other) e f = cc

-- as many steps were made
as_many : (n : ℕ) (s : State) (a b : ℕ) (x y : TaskEnd) → EndsAfter n s a x → EndsAfter n s b y → a ≡ b
as_many n s a b x y one two =
    let first : a < b → ⊥ = λ fewer. ends_here n a b s x one fewer two.few two.instructions in
    let second : b < a → ⊥ = λ fewer. ends_here n b a s y two fewer one.few one.instructions in
    omega (arith, first, second)

pub one_way_law : (n : ℕ) (s : State) (a b : ℕ) (x y : TaskEnd) → EndsInOneWay n s a b x y
one_way_law n s a b x y one two =
    let steps = as_many n s a b x y one two in
    let ends : EndsTask n a (after a s) y =
    subst (λ (k : ℕ). EndsTask n k (after k s) y) (sym steps) two.ends in
    (steps, one_reason n a (after a s) x y one.ends ends)

-- ---- two states that look the same

-- the run from s is one from t too, alike
record Carried (n : ℕ) (s t : State) (a : ℕ) (x : TaskEnd) : Type 0 where
  run : EndsAfter n t a x
  events : events_of a t ≡ events_of a s
  same : Same (after a s) (after a t)

-- where a task runs, by the laws of its run
carried_task : (n : ℕ) (s t : State) (a : ℕ) (x : TaskEnd) → Invariant s → is_task s ≡ true → Same s t
    → EndsAfter n s a x → Carried n s t a x
carried_task n s t a x inv task same one =
    let alike = end_law n s t a x inv task same one.instructions one.ends in
    let all = run_law s t a inv task same one.instructions in
    record {
      run = record { few = one.few; instructions = alike.0; ends = alike.1 };
      events = alike.2;
      same = all.same;
    }

-- a stopped machine made no step
made_none : (s : State) (a : ℕ) (why : Stop) → s.stop ≡ Some why → AreInstructions a s → a ≡ 0
unfolding after
made_none s zero why e made = refl
made_none s (suc a) why e made =
    let other = stopped_makes_none s why e in let more : is_instruction_next s
    ≡ true = made 0 (omega arith) in absurd cc

none_made : (n : ℕ) (s t : State) (x : TaskEnd) → Same s t → EndsAfter n s 0 x → Carried n s t 0 x
unfolding after events_of
none_made n s t x same one = record {
  run = record {
    few = one.few;
    instructions = λ k below. absurd (let w : ⊥ = omega arith in w);
    ends =
        subst (λ (u : State). EndsTask n 0 u x) (sym same.rest) (end_there n 0 s t.bus.memory x one.ends);
  };
  events = refl;
  same = same;
}

carried_stopped : (n : ℕ) (s t : State) (a : ℕ) (x : TaskEnd) (why : Stop) → s.stop ≡ Some why → Same s t
    → EndsAfter n s a x → Carried n s t a x
carried_stopped n s t a x why e same one =
    let none = made_none s a why e one.instructions in
    subst (λ (k : ℕ). Carried n s t k x) (sym none)
    (none_made n s t x same (subst (λ (k : ℕ). EndsAfter n s k x) none one))

carried : (n : ℕ) (s t : State) (a : ℕ) (x : TaskEnd) → Invariant s → is_some s.stop || is_task s ≡ true → Same s t
    → EndsAfter n s a x → Carried n s t a x
carried n s t a x inv runs same one = split s.stop refl runs
  where
    split : (o : Option Stop) → s.stop ≡ o → is_some o || is_task s ≡ true → Carried n s t a x
    split None e task = carried_task n s t a x inv task same one
    split (Some why) e stopped = carried_stopped n s t a x why e same one

pub two_runs_law : (n : ℕ) (s t : State) (a b : ℕ) (x y : TaskEnd) → TwoRunsLaw n s t a b x y
two_runs_law n s t a b x y inv runs same one two =
    let there = carried n s t a x inv runs same one in
    let once = one_way_law n t a b x y there.run two in
    record {
      steps = sym once.0;
      end = sym once.1;
      events = subst (λ (k : ℕ). events_of k t ≡ events_of a s) once.0 there.events;
      same = subst (λ (k : ℕ). Same (after a s) (after k t)) once.0 there.same;
    }
