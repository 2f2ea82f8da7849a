use Rattle.std.proofs.Common.{◌≡◌, ◌⊎◌, inl, inr, true, false, Option, nat_lt, ◌∙◌, sym, ap, arith}
use Rattle.debugger.proofs.Tasking.{task_cut, task_ends, task_more}
use Rattle.serving.proofs.Delivering.{delivers_nothing, delivers_rest}
use Rattle.target.specs.NextStep.{is_instruction, is_instruction_next}
use Rattle.target.specs.Endings.{end_of}
use Rattle.platform.specs.declared.stop.Stop.{Stop}
use Rattle.debugger.proofs.tasks.task_on.Goals as goal
use Rattle.debugger.proofs.tasks.task_on.Goals.{else-steps-test, then-steps-test+then-not-is_instruction}

pub steps-init : goal.steps-init
steps-init g c = delivers_nothing _ _ _

pub returns-in-Err : goal.returns-in-Err
returns-in-Err g c =
    let going : is_instruction_next (g.T.Target.model c.steps.machine).state ≡ true =
    ap is_instruction (sym c.next_kind.ensures) ∙ sym c.is_instruction.ensures ∙ c.if-not-is_instruction.false in
    task_cut _ _ _ _ _ _ _ _ _ c.steps-test.true going c.steps.invariant c.in-Err.ensures.delivers

pub steps-preserved : goal.steps-preserved
steps-preserved g c =
    let going : is_instruction_next (g.T.Target.model c.steps.machine).state ≡ true =
    ap is_instruction (sym c.next_kind.ensures) ∙ sym c.is_instruction.ensures ∙ c.if-not-is_instruction.false in
    task_more _ _ _ _ _ _ _ _ _ c.steps-test.true going c.steps.invariant c.in-Ok.ensures.delivers

-- no step is left, or the next one isn't an Instruction step
pub returns : goal.returns
returns g c =
    let ends : (c.steps.left ≡ 0) ⊎ (is_instruction_next (g.T.Target.model c.steps.machine).state ≡ false) =
    elim c.steps-test.branch [
      | else-steps-test w ↦ inl (omega arith)
      | then-steps-test+then-not-is_instruction w ↦
          inr
          (ap is_instruction (sym w.next_kind.ensures) ∙ sym w.is_instruction.ensures ∙ w.if-not-is_instruction.true)
    ] in
    let same : c.end_of_task-end.result ≡ end_of (g.T.Target.model c.steps.machine).state.stop (nat_lt 0 c.steps.left) =
    c.end_of_task-end.ensures ∙ ap (λ (o : Option Stop). end_of o (nat_lt 0 c.steps.left)) c.stop.ensures in
    delivers_rest _ _ _ _ _ _ _ _ _ (task_ends _ _ _ _ _ _ _ _ ends same c.steps.invariant) c.put_task_end.ensures
