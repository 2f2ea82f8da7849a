use Rattle.std.proofs.Common.{◌≡◌, drop, max}
use Rattle.symbols.specs.Lookup.{latest_below}
use Rattle.symbols.proofs.lookup.latest_below.Given as goal

abbrev pub invariant-loop-symbol : goal.invariant-loop-symbol
invariant-loop-symbol l =
    max l.latest (latest_below l.address (drop l.symbol-index l.symbols)) ≡ latest_below l.address l.symbols
