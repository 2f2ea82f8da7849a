use Rattle.gdb_past.proofs.Checkpointing.{IsOnItsWay}
use Rattle.gdb_past.proofs.past.Past.spread.Given as goal

abbrev pub invariant-slots : goal.invariant-slots
invariant-slots g l = IsOnItsWay l.fn.self l.self l.fn.machine l.machine l.at l.to
