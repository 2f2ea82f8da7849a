use Rattle.std.proofs.Common.{◌≡◌, ◌-◌, ◌≤◌}
use Rattle.std.specs.Io.KnownBytes.{Appends}
use Rattle.reference.specs.Run.{after, events_of}
use Rattle.machine.specs.Permits.{PermitHolds}
use Rattle.platform.specs.Events.{lines}
use Rattle.task_laws.specs.Tasks.{AreInstructions}
use Rattle.machine.proofs.task.run_task_core.Given as goal

abbrev pub invariant-steps : goal.invariant-steps
invariant-steps g l = record {
  few : l.made ≤ l.limit;
  core : l.core ≡ after l.made l.fn.core;
  made : AreInstructions l.made l.fn.core;
  written : Appends (g.W.Out.writing l.fn.out).written (g.W.Out.writing l.out).written
      (lines (events_of l.made l.fn.core));
  same : (g.W.Out.writing l.out).errors ≡ (g.W.Out.writing l.fn.out).errors;
  permit : PermitHolds l.permit l.core;
}

abbrev pub decreases-steps : goal.decreases-steps
decreases-steps g l = l.limit - l.made
