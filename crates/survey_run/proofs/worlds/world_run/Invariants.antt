use Rattle.std.proofs.Common.{◌≡◌, ◌-◌, ◌≤◌}
use Rattle.reference.specs.Run.{after}
use Rattle.survey_run.specs.WorldRuns.{worlds_after}
use Rattle.survey_run.proofs.worlds.world_run.Given as goal

abbrev pub invariant-steps : goal.invariant-steps
invariant-steps g l = record {
  few : l.made ≤ l.limit;
  machine : l.machine ≡ record l.fn.machine { state = after l.made l.fn.machine.state };
  counted : l.count.worlds ≡ worlds_after l.made l.fn.machine.state l.fn.count.worlds;
  mpu : l.count.mpu ≡ l.machine.state.bus.system.mpu;
}

abbrev pub decreases-steps : goal.decreases-steps
decreases-steps g l = l.limit - l.made
