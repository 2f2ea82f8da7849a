use Rattle.std.proofs.Common.{◌≡◌, ◌∙◌, false, is_some}
use Rattle.gdb.proofs.Slicing.{step_cut}
use Rattle.gdb.specs.Slices.{flow}
use Rattle.gdb.proofs.slices.make_step.Goals as goal

pub returns-in-Err-clause-delivers : goal.returns-in-Err-clause-delivers
returns-in-Err-clause-delivers g c =
    let none : is_some c.step_unless_hit-hit.result ≡ false = cc in
    step_cut c.args.plan.now c.args.points.now (flow c.args.progress.now c.args.machine.now.state)
    c.step_unless_hit-hit.result c.selection_of.result c.as_slice-events.result.now c.args.machine.now
    c.step_unless_hit-hit.new.machine (g.W.Out.writing c.args.out.now) (g.W.Out.writing c.put_step.new.out)
    c.step_unless_hit-hit.ensures.hit none c.selection_of.ensures
    (c.as_slice-events.ensures.value ∙ c.step_unless_hit-hit.ensures.events) c.step_unless_hit-hit.ensures.state
    (rw (← c.progress.view_is) c.in-Err.ensures)
