use Rattle.std.proofs.Common.{◌≡◌}
use Rattle.symbol_steps.specs.Totals.{number_at, sums_first}
use Rattle.symbol_steps.proofs.totals.Totals.of_memory.Given as goal

abbrev pub invariant-halfwords : goal.invariant-halfwords
invariant-halfwords l = l.sum ≡ sums_first (number_at l.code) l.halfword
