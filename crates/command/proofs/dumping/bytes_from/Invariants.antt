use Rattle.std.proofs.Common.{◌≡◌}
use Rattle.command.proofs.dumping.bytes_from.Given as goal
use Rattle.command.specs.Dumping.{bytes_from}

-- the bytes so far
abbrev pub invariant-bytes : goal.invariant-bytes
invariant-bytes l = l.bytes.items ≡ bytes_from l.machine.state.bus.memory l.dump.address l.index
