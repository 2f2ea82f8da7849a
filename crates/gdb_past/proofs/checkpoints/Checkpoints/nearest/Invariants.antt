use Rattle.std.proofs.Common.{IfSome}
use Rattle.gdb_past.specs.Checkpoints.{IsNear}
use Rattle.gdb_past.proofs.checkpoints.Checkpoints.nearest.Given as goal

-- the best one so far can be used
abbrev pub invariant-slots : goal.invariant-slots
invariant-slots g l = IfSome l.best (λ number. IsNear l.self l.most number)
