use Rattle.std.proofs.Common.{◌≡◌, ◌+◌, ◌*◌, ◌++◌, drop, length}
use Rattle.gdb_texts.specs.Registers.{registers_text}
use Rattle.gdb_texts.proofs.registers.put_registers.Given as goal

-- the values after the index give the rest of the text
abbrev pub invariant-values : goal.invariant-values
invariant-values g l = record {
  text : l.page.items ++ registers_text (drop l.value-index l.values) ≡ l.fn.page.items ++ registers_text l.values;
  room : length l.page.items ≡ length l.fn.page.items + 8 * l.value-index;
}
