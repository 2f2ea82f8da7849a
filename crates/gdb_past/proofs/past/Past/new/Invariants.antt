use Rattle.std.proofs.Common.{◌≡◌, replicate}
use Rattle.gdb_past.proofs.past.Past.new.Given as goal

-- so many marks were made
abbrev pub invariant-marks : goal.invariant-marks
invariant-marks g l = l.marks.items ≡ replicate l.number l.machine.state
