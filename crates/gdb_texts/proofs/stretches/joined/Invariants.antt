use Rattle.std.proofs.Common.{◌≡◌, ◌≤◌, ◌++◌, drop, length}
use Rattle.gdb_texts.specs.Stretches.{joined, joined_after}
use Rattle.gdb_texts.proofs.stretches.joined.Given as goal

abbrev pub invariant-stretches : goal.invariant-stretches
invariant-stretches l = record {
  items : l.all.items ++ joined_after l.by_kind l.block (drop l.stretch-index l.stretches)
      ≡ joined l.fn.by_kind l.fn.stretches;
  room : length l.all.items ≤ l.stretch-index;
}
