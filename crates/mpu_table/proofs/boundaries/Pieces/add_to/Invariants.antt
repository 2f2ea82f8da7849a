use Rattle.std.proofs.Common.{ℕ, ◌+◌, ◌*◌, ◌^◌, ◌<◌, ◌≤◌, length}
use Rattle.std.specs.List.{Contains}
use Rattle.mpu_table.specs.Intervals.{HasAllOf}
use Rattle.mpu_table.proofs.boundaries.Pieces.add_to.Given as goal

-- the boundaries before this piece are among the points, which keep those that were there
abbrev pub invariant-each : goal.invariant-each
invariant-each l = record {
  has : (j : ℕ) → j < l.piece → l.self.begin + j * l.self.length < 2 ^ 32
      → Contains l.points.items (l.self.begin + j * l.self.length);
  kept : HasAllOf l.fn.points.items l.points.items;
  few : length l.points.items ≤ length l.fn.points.items + l.piece;
}
