use Rattle.std.proofs.Common.{refl}
use Rattle.gdb.proofs.Slicing.{slice_leaves, stands_there}
use Rattle.gdb.proofs.Turning.{last_cut, last_taken}
use Rattle.gdb.specs.Slices.{flow, slice}
use Rattle.gdb.proofs.turns.last_slice.Goals as goal

pub returns-in-Ok-clause-takes : goal.returns-in-Ok-clause-takes
returns-in-Ok-clause-takes g c =
    let f = flow c.args.progress.now c.args.machine.now.state in
    let p = c.args.plan.now in
    let points = c.args.context.now.points.now in
    last_taken p points.watchpoints c.args.context.now.features (slice p points c.args.steps f) c.run_slice.new.progress
    c.in-Ok.reason
    c.unwrap_or-reason.result c.args.machine.now c.run_slice.new.machine (g.W.Out.writing c.args.out.now)
    (g.W.Out.writing c.run_slice.new.out) (g.W.Out.writing c.end_run.new.out) c.end_run.new.sent.items
    c.end_run.result c.in-Ok.ensures.delivers c.in-Ok.ensures.slices c.unwrap_or-reason.ensures
    (stands_there f c.args.steps (slice p points c.args.steps f) c.args.machine.now c.run_slice.new.machine
    (g.W.Out.writing c.args.out.now) (g.W.Out.writing c.run_slice.new.out) refl
    (slice_leaves p points c.args.steps f) c.in-Ok.ensures.delivers) c.end_run.ensures

pub returns-in-Err-clause-takes : goal.returns-in-Err-clause-takes
returns-in-Err-clause-takes g c =
    last_cut c.args.plan.now c.args.context.now.points.now.watchpoints c.args.context.now.features
    (slice c.args.plan.now c.args.context.now.points.now c.args.steps
    (flow c.args.progress.now c.args.machine.now.state)) c.args.machine.now c.run_slice.new.machine
    (g.W.Out.writing c.args.out.now) (g.W.Out.writing c.run_slice.new.out) c.in-Err.ensures.delivers
