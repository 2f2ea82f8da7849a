use Rattle.std.proofs.Common.{◌≡◌, ◌⊎◌, inl, inr, ◌∙◌, sym, refl, arith, true, false, ◌≤◌}
use Rattle.std.proofs.KnownBytes.{Appends-nil}
use Rattle.machine.proofs.Running.{none_made, none_shown, after_on, shown_on}
use Rattle.machine.proofs.Tasking.{instruction_on, ends_so, task_is_cut}
use Rattle.machine.proofs.task.run_task_core.Goals as goal
use Rattle.machine.proofs.task.run_task_core.Goals.{else-steps-test, then-steps-test+then-not-is_instruction}
use Rattle.task_laws.specs.NextStep.{is_instruction_next}

pub steps-init : goal.steps-init
steps-init g c = record {
  few = omega arith;
  core = sym (none_made c.args.core.now);
  made = λ k below. absurd (omega arith);
  written = rw (none_shown c.args.core.now) (Appends-nil _);
  same = refl;
  permit = c.requires;
}

pub steps-preserved : goal.steps-preserved
steps-preserved g c =
    let next : is_instruction_next c.steps.core ≡ true = cc in
    record {
      few = omega arith;
      core = c.write_step.ensures.state ∙ after_on _ _ _ c.steps.invariant.core;
      made = instruction_on _ _ _ c.steps.invariant.made c.steps.invariant.core next;
      written = shown_on _ _ _ _ _ _ _ c.steps.invariant.written c.in-Ok.ensures.put.0 refl c.steps.invariant.core;
      same = c.in-Ok.ensures.put.1 ∙ c.steps.invariant.same;
      permit = c.write_step.ensures.permit;
    }

pub returns-in-Err-clause-cut : goal.returns-in-Err-clause-cut
returns-in-Err-clause-cut g c =
    let next : is_instruction_next c.steps.core ≡ true = cc in
    task_is_cut (g.W.Out.writing c.args.out.now) (g.W.Out.writing c.steps.out) (g.W.Out.writing c.write_step.new.out)
    _ _ _ _ _ _ (omega arith)
    (instruction_on _ _ _ c.steps.invariant.made c.steps.invariant.core next)
    (c.write_step.ensures.state ∙ after_on _ _ _ c.steps.invariant.core) c.steps.invariant.written
    c.in-Err.ensures.put.0 refl c.steps.invariant.core

pub returns-clause-end : goal.returns-clause-end
returns-clause-end g c =
    let ends : (c.args.limit ≤ c.steps.made) ⊎ (is_instruction_next c.steps.core ≡ false) =
    elim c.steps-test.branch [
      | else-steps-test w ↦ inl (omega arith)
      | then-steps-test+then-not-is_instruction w ↦ inr cc
    ] in
    record {
      steps = c.steps.made;
      few = c.steps.invariant.few;
      instructions = c.steps.invariant.made;
      state = c.steps.invariant.core;
      written = c.steps.invariant.written;
      ends =
          rw (c.end_of_task.ensures, c.stop.ensures)
          (ends_so c.args.limit c.steps.made c.steps.core c.steps.invariant.few ends);
    }
