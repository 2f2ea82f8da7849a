use Rattle.std.proofs.Common.{◌∙◌, subst, sym}
use Rattle.gdb_past.proofs.Ways.{on_by}
use Rattle.gdb_past.specs.Places.{Past}
use Rattle.gdb_past.specs.Ways.{IsAfterMark}
use Rattle.test_machine.proofs.tests.steps_back.run_on.Goals as goal

pub follow-requires : goal.follow-requires
follow-requires g c =
    on_by c.steps.machine c.step.new.self c.step.ensures.state c.steps.past c.steps.invariant.after

pub steps-preserved : goal.steps-preserved
steps-preserved g c = record {
  past = c.follow.ensures ∙ c.steps.invariant.past;
  after = subst (λ (p : Past). IsAfterMark p c.step.new.self.state) (sym c.follow.ensures)
      (on_by c.steps.machine c.step.new.self c.step.ensures.state c.steps.past c.steps.invariant.after);
}
