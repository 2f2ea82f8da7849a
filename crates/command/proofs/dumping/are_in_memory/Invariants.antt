use Rattle.std.proofs.Common.{◌≡◌, true}
use Rattle.command.proofs.dumping.are_in_memory.Given as goal
use Rattle.command.specs.Dumping.{are_in_memory}

-- all bytes so far are there
abbrev pub invariant-bytes : goal.invariant-bytes
invariant-bytes l = are_in_memory l.machine.state.bus.memory l.dump.address l.index ≡ true
