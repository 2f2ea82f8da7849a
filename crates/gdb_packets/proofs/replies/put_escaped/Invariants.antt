use Rattle.std.proofs.Common.{◌≡◌, ◌<◌, ◌≤◌, ◌+◌, ◌*◌, ◌%◌, ◌++◌, drop, length, sum}
use Rattle.gdb_packets.specs.Escapes.{escaped}
use Rattle.gdb_packets.proofs.replies.put_escaped.Given as goal

-- the bytes after the index give the rest of the text, and of the sum
abbrev pub invariant-bytes : goal.invariant-bytes
invariant-bytes g l = record {
  text : l.page.items ++ escaped (drop l.byte-index l.content) ≡ l.fn.page.items ++ escaped l.fn.content;
  short : length l.page.items ≤ length l.fn.page.items + 2 * l.byte-index;
  checksum : (l.sum + sum (escaped (drop l.byte-index l.content))) % 256 ≡ sum (escaped l.fn.content) % 256;
  small : l.sum < 256;
}
