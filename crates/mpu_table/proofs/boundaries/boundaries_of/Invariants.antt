use Rattle.std.proofs.Common.{ℕ, ◌*◌, ◌<◌, ◌≤◌, length}
use Rattle.mpu_table.specs.Intervals.{PartsRegion}
use Rattle.platform.specs.Regions.{region}
use Rattle.mpu_table.proofs.boundaries.boundaries_of.Given as goal

-- the points part the regions before this one
abbrev pub invariant-loop-number : goal.invariant-loop-number
invariant-loop-number l = record {
  parts : (k : ℕ) → k < l.number → PartsRegion l.points.items (region l.registers k);
  few : length l.points.items ≤ 9 * l.number;
}
