use Rattle.std.proofs.Common.{◌≡◌, ◌+◌, drop}
use Rattle.gdb_server.specs.Writes.{with_bytes}
use Rattle.gdb_server.proofs.writes.put_bytes.Given as goal

-- the bytes that are left, from the state so far
abbrev pub invariant-bytes : goal.invariant-bytes
invariant-bytes g l = record {
  left :
      with_bytes l.machine.state l.at (drop l.byte-index l.bytes)
      ≡ with_bytes l.fn.machine.state l.address l.bytes;
  same : l.machine.broken ≡ l.fn.machine.broken;
  place : l.at ≡ l.address + l.byte-index;
}
