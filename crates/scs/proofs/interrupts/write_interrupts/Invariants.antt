use Rattle.std.proofs.Common.{◌≡◌}
use Rattle.platform.specs.Interrupts.{with_bits_below}
use Rattle.scs.proofs.interrupts.write_interrupts.Given as goal

-- the bits that were looked at have done what they do
abbrev pub invariant-each : goal.invariant-each
invariant-each g l =
    g.L.Exceptions.content l.exceptions
    ≡ with_bits_below (g.L.Exceptions.content l.fn.exceptions) l.register l.first l.value l.bit
