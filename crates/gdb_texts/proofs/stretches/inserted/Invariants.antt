use Rattle.std.proofs.Common.{◌≡◌, ◌≤◌, ◌+◌, ℕ, Option, Some, None, ◌++◌, drop, length}
use Rattle.gdb_texts.specs.declared.stretch.Stretch.{Stretch}
use Rattle.gdb_texts.specs.Stretches.{inserted}
use Rattle.gdb_texts.proofs.stretches.inserted.Given as goal

abbrev pub waits : Option Stretch → ℕ
waits None = 0
waits (Some s) = 1

abbrev pub invariant-others : goal.invariant-others
invariant-others l = record {
  items : l.all.items ++ inserted l.waiting (drop l.other-index l.others) ≡ inserted l.fn.stretch l.fn.others;
  room : length l.all.items + waits l.waiting ≤ l.other-index + 1;
}
