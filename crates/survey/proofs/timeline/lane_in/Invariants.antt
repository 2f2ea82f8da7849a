use Rattle.std.proofs.Common.{◌≡◌, ◌+◌, drop}
use Rattle.survey.specs.Timeline.{lane_in}
use Rattle.survey.proofs.timeline.lane_in.Given as goal

abbrev pub invariant-loop-lane : goal.invariant-loop-lane
invariant-loop-lane l =
    l.lane + lane_in l.exception (drop l.lane l.handlers) ≡ lane_in l.exception l.handlers
