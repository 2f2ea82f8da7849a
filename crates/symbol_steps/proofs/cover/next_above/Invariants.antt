use Rattle.std.proofs.Common.{◌≡◌, ◌≤◌, ◌^◌, drop, min}
use Rattle.symbol_steps.specs.Ends.{next_above}
use Rattle.symbol_steps.proofs.cover.next_above.Given as goal

abbrev pub invariant-loop-symbol : goal.invariant-loop-symbol
invariant-loop-symbol l = record {
  value : min l.next (next_above l.address (drop l.symbol-index l.symbols)) ≡ next_above l.address l.symbols;
  within : l.next ≤ 2 ^ 32;
}
