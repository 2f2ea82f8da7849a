use Rattle.std.proofs.Common.{◌≤◌}
use Rattle.gdb_past.proofs.past.slot_ahead.Given as goal

-- the level is one of those
abbrev pub invariant-levels : goal.invariant-levels
invariant-levels l = l.level ≤ l.lower
