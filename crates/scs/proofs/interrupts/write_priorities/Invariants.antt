use Rattle.std.proofs.Common.{◌≡◌}
use Rattle.platform.specs.Interrupts.{write_priorities as write_priorities_of}
use Rattle.scs.proofs.interrupts.write_priorities.Given as goal

-- the exceptions that were looked at have their bytes
abbrev pub invariant-each : goal.invariant-each
invariant-each g l =
    g.L.Exceptions.content l.exceptions
    ≡ write_priorities_of (g.L.Exceptions.content l.fn.exceptions) l.first l.value l.index
