use Rattle.std.proofs.Common.{◌≡◌, ◌+◌, ◌*◌, ◌≤◌, ◌++◌, length}
use Rattle.debugger_commands.specs.Texts.{bytes_text}
use Rattle.debugger.proofs.texts.put_bytes.Given as goal

abbrev pub invariant-offsets : goal.invariant-offsets
invariant-offsets g l = record {
  text : l.page ≡ l.fn.page ++ bytes_text (g.T.Target.model l.machine).state.bus l.address l.offset;
  short : length l.page ≤ 9 + 3 * l.offset;
}
