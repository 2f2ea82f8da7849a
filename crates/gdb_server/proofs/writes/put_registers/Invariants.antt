use Rattle.std.proofs.Common.{◌≡◌, ◌-◌}
use Rattle.gdb_server.specs.Writes.{registers_from, registers_written}
use Rattle.gdb_server.proofs.writes.put_registers.Given as goal

-- the registers that are left, from the state so far
abbrev pub invariant-registers : goal.invariant-registers
invariant-registers g l = record {
  left :
      registers_from l.machine.state l.digits l.index (23 - l.index)
      ≡ registers_written l.fn.machine.state l.digits;
  same : l.machine.broken ≡ l.fn.machine.broken;
}
