use Rattle.std.proofs.Common.{◌≡◌, ◌≤◌, ◌+◌, ◌*◌, ◌++◌, drop, length}
use Rattle.arrayvec.specs.ArrayVec.{array_vec_len}
use Rattle.gdb_texts.specs.Transfers.{rams_text}
use Rattle.gdb_texts.proofs.transfers.put_rams.Given as goal

abbrev pub invariant-stretches : goal.invariant-stretches
invariant-stretches g l = record {
  text : l.page.items ++ rams_text (drop l.stretch-index l.stretches) ≡ l.fn.page.items ++ rams_text l.fn.stretches;
  room : array_vec_len l.page ≤ array_vec_len l.fn.page + 64 * l.stretch-index;
}
