use Rattle.std.proofs.Common.{◌≡◌, drop}
use Rattle.std.specs.List.{list_any}
use Rattle.symbol_steps.specs.Symbols.{is_twin}
use Rattle.symbol_steps.proofs.cover.has_twin.Given as goal

abbrev pub invariant-loop-other : goal.invariant-loop-other
invariant-loop-other l =
    list_any (is_twin l.symbol) (drop l.other-index l.symbols) ≡ list_any (is_twin l.symbol) l.symbols
