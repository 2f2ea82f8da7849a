use Rattle.std.proofs.Common.{◌≡◌, ◌<◌, ◌^◌}
use Rattle.platform.specs.Interrupts.{read_below}
use Rattle.scs.proofs.interrupts.read_interrupts.Given as goal

-- the bits that were looked at are those of the value
abbrev pub invariant-each : goal.invariant-each
invariant-each g l = record {
  shown : l.value ≡ read_below (g.L.Exceptions.content l.exceptions) l.register l.first l.bit;
  small : l.value < 2 ^ l.bit;
}
