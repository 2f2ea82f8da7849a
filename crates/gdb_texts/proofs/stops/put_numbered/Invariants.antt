use Rattle.std.proofs.Common.{◌≡◌, ◌+◌, ◌*◌, ◌++◌, drop, length}
use Rattle.gdb_texts.specs.Stops.{numbered_from}
use Rattle.gdb_texts.proofs.stops.put_numbered.Given as goal

-- the values after the index give the rest of the text
abbrev pub invariant-values : goal.invariant-values
invariant-values g l = record {
  text :
      l.page.items ++ numbered_from l.value-index (drop l.value-index l.values)
      ≡ l.fn.page.items ++ numbered_from 0 l.values;
  room : length l.page.items ≡ length l.fn.page.items + 12 * l.value-index;
  number : l.number ≡ l.value-index;
}
