use Rattle.std.proofs.Common.{◌≡◌, ◌+◌, ◌*◌, ◌++◌, drop, length}
use Rattle.gdb_texts.specs.Bytes.{bytes_text}
use Rattle.gdb_texts.proofs.bytes.put_bytes.Given as goal

-- the bytes after the index give the rest of the text
abbrev pub invariant-bytes : goal.invariant-bytes
invariant-bytes g l = record {
  text : l.page.items ++ bytes_text (drop l.byte-index l.bytes) ≡ l.fn.page.items ++ bytes_text l.bytes;
  len : length l.page.items ≡ length l.fn.page.items + 2 * l.byte-index;
}
