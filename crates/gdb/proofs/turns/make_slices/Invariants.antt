use Rattle.std.proofs.Common.{◌≡◌, ◌+◌, ◌*◌, ◌%◌, ◌^◌, ◌<◌}
use Rattle.gdb.proofs.Turning.{Going}
use Rattle.gdb.specs.Slices.{flow}
use Rattle.gdb_past.specs.Places.{AreOfOneMachine}
use Rattle.gdb_past.specs.Ways.{IsAfterMark}
use Rattle.gdb.specs.Turns.{all_slices, slices, max_slice_steps}
use Rattle.gdb.proofs.turns.make_slices.Given as goal

-- the pieces so far went out, and those of the slices that are left are still to come
abbrev pub invariant-slices : goal.invariant-slices
invariant-slices g l = record {
  goes : Going
      (all_slices l.plan l.context.points.now l.context.features l.left (flow l.fn.progress l.fn.machine.state))
      (slices l.plan l.context.points.now l.context.features l.whole (l.left % max_slice_steps)
      (flow l.progress l.machine.state)) l.fn.machine l.machine (g.W.Out.writing l.fn.out) (g.W.Out.writing l.out);
  fits : AreOfOneMachine l.position l.machine.state;
  same : AreOfOneMachine l.fn.machine.state l.machine.state;
  past : l.past ≡ l.fn.past;
  ahead : IsAfterMark l.past l.machine.state;
  count : l.progress.made + l.whole * max_slice_steps + l.left % max_slice_steps < 2 ^ 64;
}

abbrev pub decreases-slices : goal.decreases-slices
decreases-slices g l = l.whole
