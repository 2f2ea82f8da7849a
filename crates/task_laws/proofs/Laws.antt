-- The laws. Those of n steps follow from `step_alike` by induction, and that of one step is the case n = 1.
use Rattle.std.proofs.Common.{◌≡◌, ℕ, zero, suc, Bool, true, List, ◌++◌, refl, sym, ap, subst, ◌∙◌}
use Rattle.std.proofs.Common.{arith, add-one, below_more}
use Rattle.std.proofs.lemmas.Bool.{and_from, and_parts}
use Rattle.platform.specs.declared.access.Request.{Request}
use Rattle.platform.specs.declared.event.Event.{Event}
use Rattle.reference.specs.Invariant.{Invariant}
use Rattle.platform.specs.Memory.{Agree, Memory}
use Rattle.platform.specs.Outcomes.{Outcome}
use Rattle.platform.specs.Priorities.{is_below_zero}
use Rattle.platform.specs.Regions.{Mpu}
use Rattle.reference.specs.Run.{after, events_of}
use Rattle.reference.specs.State.{Bus, State, Stepped, with_bus}
use Rattle.reference.specs.Step.{step}
use Rattle.state_laws.proofs.Ends.{step_keeps}
use Rattle.task_laws.specs.declared.task.TaskEnd.{TaskEnd}
use Rattle.task_laws.specs.declared.task.TaskEnd.TheVariants as task_end
use Rattle.task_laws.specs.NextStep.{is_instruction_next}
use Rattle.task_laws.specs.Sight.{sees, is_seen, AgreeBut, Same, KeepsDenied, with_memory}
use Rattle.task_laws.specs.TaskLaw.{IsOfTask, performed_in, AccessAlike, AccessLaw, StepLaw, RunAlike, RunLaw}
use Rattle.task_laws.specs.TaskLaw.{UnprivilegedRunLaw, EndsAlike}
use Rattle.task_laws.specs.Tasks.{AreInstructions, EndsTask, runs_unprivileged}
use Rattle.task_laws.proofs.Accesses.{Alike, perform_alike}
use Rattle.task_laws.proofs.Instructions.{instruction_is, instruction_says}
use Rattle.physical_memory.proofs.Blocks.{agree_self, laid_out_alike}
use Rattle.task_laws.proofs.Priorities.{Decides}
use Rattle.task_laws.proofs.Steps.{Ready, SameStep, instruction_there, step_alike}
use Rattle.task_laws.proofs.Tasks.{Parts, parts_of, has_parts, uses_kept}

-- two states that agree where m and z let a task see, if those are what the decision depends on, look the same
same_by : (m : Mpu) (z : Bool) (s t : State) → Decides m z s.bus.system → AgreeBut (sees m z) s t → Same s t
same_by m z s t d agree =
    subst (λ (f : Mpu). AgreeBut (sees f (is_below_zero s.bus.system.nvic)) s t) (sym d.mpu)
    (subst (λ (y : Bool). AgreeBut (sees m y) s t) (sym d.below_zero) agree)

-- memories that look the same at the start
alike_first : (s : State) (k : Memory) → Agree (is_seen s) s.bus.memory k →
    Alike s.bus.system.mpu (is_below_zero s.bus.system.nvic) s.bus.memory s.bus k
alike_first s k looks =
    record { looks = looks; kept = agree_self _ s.bus.memory; decides = record { mpu = refl; below_zero = refl } }

-- ---- one access

access_here : (s : State) (k : Memory) (q : Request) → Invariant s → Agree (is_seen s) s.bus.memory k → IsOfTask q →
    AccessAlike s (with_memory s k) q
access_here s k q inv looks of =
    let both =
    perform_alike _ _ s.bus.memory s.registers.exception s.bus k q inv.system.regions of (alike_first s k looks) in
    record {
      answer = ap (λ (o : Outcome Bus). o.performed) both.rest;
      same =
          same_by _ _ (performed_in s q) (performed_in (with_memory s k) q) both.alike.decides (record {
            memory = both.alike.looks;
            rest = ap (λ (o : Outcome Bus). with_bus s o.after) both.rest;
          });
      kept = both.alike.kept;
    }

pub access_law : (s t : State) (q : Request) → AccessLaw s t q
access_law s t q inv same of =
    subst (λ (u : State). AccessAlike s u q) (sym same.rest) (access_here s t.bus.memory q inv same.memory of)

-- ---- n steps

after_keeps : (n : ℕ) (s : State) → Invariant s → Invariant (after n s)
unfolding after
after_keeps zero s inv = inv
after_keeps (suc n) s inv = step_keeps (after n s) (after_keeps n s inv)

module _ (m : Mpu) (z : Bool) (old : Memory) where
  -- an Instruction step is one from t too, where t differs from s only in memory, and the steps end alike
  both_step : (s t : State) → t ≡ with_memory s t.bus.memory → Invariant s → is_instruction_next s ≡ true →
      Ready m z old s t.bus.memory → (is_instruction_next t ≡ true) × SameStep m z old (step s) (step t)
  both_step s t rest inv next r =
      let k = t.bus.memory in
      let i = instruction_is s next in
      subst (λ (u : State). (is_instruction_next u ≡ true) × SameStep m z old (step s) (step u)) (sym rest)
      (instruction_says (with_memory s k) (instruction_there s k i), step_alike m z old s k inv.registers.pc.even i r)

  -- n steps from both
  record SameRun (n : ℕ) (s t : State) : Type 0 where
    instructions : AreInstructions n t
    events : events_of n t ≡ events_of n s
    rest : after n t ≡ with_memory (after n s) (after n t).bus.memory
    ready : Ready m z old (after n s) (after n t).bus.memory

  -- n Instruction steps from s are such steps from t too
  ran : (n : ℕ) (s t : State) → Invariant s → t ≡ with_memory s t.bus.memory → Ready m z old s t.bus.memory →
      AreInstructions n s → SameRun n s t
  unfolding after events_of
  ran zero s t inv rest r are = record {
    instructions = λ k below. absurd (let w : ⊥ = omega arith in w);
    events = refl;
    rest = rest;
    ready = r;
  }
  ran (suc n) s t inv rest r are =
      let before : SameRun n s t = ran n s t inv rest r (λ k below. are k (omega arith)) in
      let last =
      both_step (after n s) (after n t) before.rest (after_keeps n s inv) (are n (omega arith)) before.ready in
      record {
        instructions = rw (← add-one) (below_more _ _ before.instructions last.0);
        events =
            ap (λ (es : List Event). es ++ (step (after n t)).events) before.events
            ∙ ap (λ (p : Stepped). events_of n s ++ p.events) last.1.rest;
        rest = ap (λ (p : Stepped). p.state) last.1.rest;
        ready = last.1.ready;
      }

-- ---- the runs from both states

-- a state in which unprivileged code runs
record Starts (s : State) : Type 0 where
  invariant : Invariant s
  parts : Parts s

starts_ready : (s : State) (k : Memory) → Starts s → Agree (is_seen s) s.bus.memory k →
    Ready s.bus.system.mpu (is_below_zero s.bus.system.nvic) s.bus.memory s k
starts_ready s k b looks = record {
  sound = b.invariant.system.regions;
  alike = alike_first s k looks;
  thread = b.parts.thread;
  outside = b.parts.outside;
}

-- one that looks the same is such a state too
starts_there : (s : State) (k : Memory) → Agree (is_seen s) s.bus.memory k → Starts s → Starts (with_memory s k)
starts_there s k looks b = record {
  invariant = record {
    registers = b.invariant.registers;
    entry = b.invariant.entry;
    memory = laid_out_alike _ s.bus.memory k looks b.invariant.memory;
    system = b.invariant.system;
  };
  parts = record { thread = b.parts.thread; outside = b.parts.outside };
}

-- a run keeps the bytes that may not be stored: it's a run that looks the same as itself
run_keeps : (n : ℕ) (s : State) → Starts s → AreInstructions n s → KeepsDenied s s.bus.memory (after n s).bus.memory
run_keeps n s b are =
    let all =
    ran _ _ s.bus.memory n s s b.invariant refl (starts_ready s s.bus.memory b (agree_self _ s.bus.memory)) are in
    all.ready.alike.kept

-- the runs are alike, and what is ready after them
record BothRun (n : ℕ) (s t : State) : Type 0 where
  run : RunAlike n s t
  ready : Ready s.bus.system.mpu (is_below_zero s.bus.system.nvic) s.bus.memory (after n s) (after n t).bus.memory

both_run : (n : ℕ) (s t : State) → Starts s → Same s t → AreInstructions n s → BothRun n s t
both_run n s t b same are =
    let all = ran _ _ s.bus.memory n s t b.invariant same.rest (starts_ready s t.bus.memory b same.memory) are in
    let there = subst Starts (sym same.rest) (starts_there s t.bus.memory same.memory b) in
    record {
      run = record {
        instructions = all.instructions;
        events = all.events;
        same =
            same_by _ _ (after n s) (after n t) all.ready.alike.decides
            (record { memory = all.ready.alike.looks; rest = all.rest });
        kept_here = all.ready.alike.kept;
        kept_there = run_keeps n t there all.instructions;
      };
      ready = all.ready;
    }

pub unprivileged_run_law : (s t : State) (n : ℕ) → UnprivilegedRunLaw s t n
unprivileged_run_law s t n inv runs same are =
    (both_run n s t (record { invariant = inv; parts = parts_of s runs }) same are).run

pub run_law : (s t : State) (n : ℕ) → RunLaw s t n
run_law s t n inv task = unprivileged_run_law s t n inv (and_parts _ _ task).0

-- ---- one step

pub step_law : (s t : State) → StepLaw s t
unfolding after events_of
step_law s t inv task same next =
    let parts = and_parts (runs_unprivileged s) _ task in
    let first : AreInstructions 1 s =
    λ k below. let e : k ≡ 0 = omega arith in
    subst (λ (j : ℕ). is_instruction_next (after j s) ≡ true) (sym e) next in
    let all : BothRun 1 s t =
    both_run 1 s t (record { invariant = inv; parts = parts_of s parts.0 }) same first in
    let runs = has_parts (step s).state (record { thread = all.ready.thread; outside = all.ready.outside }) in
    let uses =
    uses_kept _ _ s.bus.system (step s).state.bus.system (record { mpu = refl; below_zero = refl })
    all.ready.alike.decides parts.1 in
    record {
      instruction = all.run.instructions 0 (omega arith);
      events = all.run.events;
      same = all.run.same;
      kept_here = all.run.kept_here;
      kept_there = all.run.kept_there;
      task = and_from _ _ runs uses;
    }

-- ---- how a run of a task ends

pub end_there : (n steps : ℕ) (s : State) (k : Memory) (end : TaskEnd) → EndsTask n steps s end →
    EndsTask n steps (with_memory s k) end
end_there n steps s k task_end.Done e = e
end_there n steps s k task_end.Other e = e
end_there n steps s k task_end.NotTask e = e
end_there n steps s k (task_end.Stopped why) e = e

pub end_law : (n : ℕ) (s t : State) (steps : ℕ) (end : TaskEnd) → EndsAlike n s t steps end
end_law n s t steps end inv task same are ends =
    let all = run_law s t steps inv task same are in (
      all.instructions,
      subst (λ (u : State). EndsTask n steps u end) (sym all.same.rest)
          (end_there n steps (after steps s) (after steps t).bus.memory end ends),
      all.events,
    )
