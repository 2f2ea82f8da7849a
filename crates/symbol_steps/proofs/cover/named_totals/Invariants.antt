use Rattle.std.proofs.Common.{◌≡◌, ◌+◌}
use Rattle.symbol_steps.specs.Symbols.{named_number}
use Rattle.symbol_steps.specs.Totals.{sums_first}
use Rattle.symbol_steps.proofs.cover.named_totals.Given as goal

abbrev pub invariant-halfwords : goal.invariant-halfwords
invariant-halfwords l =
    l.sum ≡ sums_first (λ p k. named_number l.symbols.list.items l.symbol l.code p (l.range.first + k)) l.offset
