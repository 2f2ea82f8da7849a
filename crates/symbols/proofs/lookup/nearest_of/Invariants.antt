use Rattle.std.proofs.Common.{◌≡◌, drop, None}
use Rattle.symbols.specs.Lookup.{nearest_of}
use Rattle.symbols.proofs.lookup.nearest_of.Given as goal

abbrev pub invariant-loop-symbol : goal.invariant-loop-symbol
invariant-loop-symbol l =
    nearest_of l.latest l.above l.address l.best (drop l.symbol-index l.symbols)
    ≡ nearest_of l.latest l.above l.address None l.symbols
