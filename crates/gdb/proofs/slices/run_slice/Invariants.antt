use Rattle.std.proofs.Common.{◌≡◌, ◌≤◌, ◌+◌}
use Rattle.gdb.proofs.Slicing.{Sliding}
use Rattle.gdb.specs.Slices.{flow, slice}
use Rattle.gdb.specs.Watching.{IsReady}
use Rattle.gdb_past.specs.Places.{AreOfOneMachine}
use Rattle.gdb_past.specs.Ways.{IsAfterMark}
use Rattle.gdb.proofs.slices.run_slice.Given as goal

-- the pieces so far went out, and those of the steps that are left are still to come
abbrev pub invariant-steps : goal.invariant-steps
invariant-steps g l = record {
  slides : Sliding (slice l.plan l.points l.fn.steps (flow l.fn.progress l.fn.machine.state))
      (slice l.plan l.points l.left (flow l.progress l.machine.state)) l.fn.machine l.machine
      (g.W.Out.writing l.fn.out) (g.W.Out.writing l.out);
  count : l.progress.made + l.left ≤ l.fn.progress.made + l.fn.steps;
  ready : IsReady l.points.watchpoints l.position l.machine.state;
  fits : AreOfOneMachine l.position l.machine.state;
  same : AreOfOneMachine l.fn.machine.state l.machine.state;
  past : l.past ≡ l.fn.past;
  ahead : IsAfterMark l.past l.machine.state;
}

abbrev pub decreases-steps : goal.decreases-steps
decreases-steps g l = l.left
