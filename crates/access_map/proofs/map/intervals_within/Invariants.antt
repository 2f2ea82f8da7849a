use Rattle.std.proofs.Common.{◌-◌, ◌≤◌}
use Rattle.access_map.proofs.Making.{IsMade}
use Rattle.access_map.proofs.map.intervals_within.Given as goal

-- the intervals are right up to the current one, which is as long as the addresses that were read
abbrev pub invariant-each : goal.invariant-each
invariant-each l = record {
  made : IsMade l.world l.place l.span.first l.intervals.items l.current;
  upto : l.current.last ≤ l.span.last;
}

abbrev pub decreases-each : goal.decreases-each
decreases-each l = l.span.last - l.current.last
