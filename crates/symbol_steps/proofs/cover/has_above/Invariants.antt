use Rattle.std.proofs.Common.{◌≡◌, drop}
use Rattle.symbols.specs.Lookup.{has_above}
use Rattle.symbol_steps.proofs.cover.has_above.Given as goal

abbrev pub invariant-loop-symbol : goal.invariant-loop-symbol
invariant-loop-symbol l = has_above l.address (drop l.symbol-index l.symbols) ≡ has_above l.address l.symbols
