use Rattle.std.proofs.Common.{◌≡◌, drop}
use Rattle.gdb_past.specs.Places.{below}
use Rattle.gdb_past.proofs.past.Past.number_from.Given as goal

-- the marks so far are of the tick or later
abbrev pub invariant-marks : goal.invariant-marks
invariant-marks g l = below l.tick (drop l.number l.self.marks) ≡ below l.tick l.self.marks
