use Rattle.std.proofs.Common.{◌≡◌, ◌+◌, ◌++◌, length}
use Rattle.gdb_texts.specs.Bytes.{first_bytes}
use Rattle.gdb_texts.proofs.bytes.put_first_bytes.Given as goal

-- the bytes below the index
abbrev pub invariant-indexes : goal.invariant-indexes
invariant-indexes g l = record {
  text : l.page.items ≡ l.fn.page.items ++ first_bytes l.digits l.index;
  room : length l.page.items ≡ length l.fn.page.items + l.index;
}
