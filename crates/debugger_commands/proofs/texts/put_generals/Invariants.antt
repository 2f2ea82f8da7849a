use Rattle.std.proofs.Common.{◌≡◌, ◌*◌, ◌≤◌, length}
use Rattle.debugger_commands.specs.Texts.{general_lines}
use Rattle.debugger_commands.proofs.texts.put_generals.Given as goal

abbrev pub invariant-numbers : goal.invariant-numbers
invariant-numbers l = record {
  text : l.page ≡ general_lines l.values l.number;
  short : length l.page ≤ 31 * l.number;
}
