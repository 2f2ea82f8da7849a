use Rattle.std.proofs.Common.{◌≡◌, ◌*◌, ◌≤◌, length}
use Rattle.debugger_commands.specs.Texts.{region_lines}
use Rattle.debugger.proofs.texts.regions_text.Given as goal

abbrev pub invariant-numbers : goal.invariant-numbers
invariant-numbers g l = record {
  text : l.page ≡ region_lines (g.T.Target.model l.machine).state.bus.system.mpu l.number;
  short : length l.page ≤ 40 * l.number;
}
