use Rattle.std.proofs.Common.{◌≡◌, ◌≤◌, ◌++◌, drop, false, length}
use Rattle.gdb_packets.specs.Escapes.{unescaped_after}
use Rattle.gdb_packets.proofs.escapes.unescape.Given as goal

-- the bytes after the index give the rest of the data
abbrev pub invariant-bytes : goal.invariant-bytes
invariant-bytes g l = record {
  text : l.content.items ++ unescaped_after l.after_escape (drop l.byte-index l.raw) ≡ unescaped_after false l.fn.raw;
  short : length l.content.items ≤ l.byte-index;
}
