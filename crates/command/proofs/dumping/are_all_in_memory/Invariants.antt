use Rattle.std.proofs.Common.{◌≡◌, drop}
use Rattle.command.proofs.dumping.are_all_in_memory.Given as goal
use Rattle.command.specs.Dumping.{are_all_in_memory}

-- all dumps are there just where those that are left are
abbrev pub invariant-dumps : goal.invariant-dumps
invariant-dumps l =
    are_all_in_memory l.machine.state.bus.memory (drop l.dump-index l.dumps)
    ≡ are_all_in_memory l.machine.state.bus.memory l.dumps
