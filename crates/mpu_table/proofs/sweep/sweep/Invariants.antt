use Rattle.std.proofs.Common.{◌≤◌, length}
use Rattle.mpu_table.proofs.Owned.{IsMade}
use Rattle.mpu_table.proofs.sweep.sweep.Given as goal

-- the intervals are right as far as the boundaries were read
abbrev pub invariant-each : goal.invariant-each
invariant-each l = record {
  made : IsMade l.registers l.points l.point-index l.first l.region l.intervals.items;
  few : length l.intervals.items ≤ l.point-index;
}
