use Rattle.std.proofs.Common.{◌≡◌, ◌+◌, ◌*◌, ◌≤◌, ◌++◌, codes, length}
use Rattle.debugger.specs.StateText.{numbers_below}
use Rattle.debugger.proofs.state.put_active.Given as goal

-- the numbers so far
abbrev pub invariant-numbers : goal.invariant-numbers
invariant-numbers g l = record {
  text : l.page ≡ (l.fn.page ++ codes "ACTIVE")
      ++ numbers_below (g.T.Target.model l.machine).state.bus.system.nvic.active l.number;
  short : length l.page ≤ length l.fn.page + 7 + 21 * l.number;
}
