use Rattle.std.proofs.Common.{◌≡◌, ◌+◌, ◌*◌, ◌≤◌, drop, length}
use Rattle.gdb_server.specs.Commands.{mark_lines}
use Rattle.gdb_server.proofs.commands.mark_lines.Given as goal

-- the lines of the first marks
abbrev pub invariant-marks : goal.invariant-marks
invariant-marks g l = record {
  lines : l.page ≡ mark_lines (drop l.left l.past.marks);
  few : l.left ≤ length l.past.marks;
  room : length l.page + 21 * l.left ≤ 168;
}

abbrev pub decreases-marks : goal.decreases-marks
decreases-marks g l = l.left
