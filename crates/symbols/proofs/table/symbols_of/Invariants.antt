use Rattle.std.proofs.Common.{◌≡◌}
use Rattle.symbols.specs.Tables.{symbols_of}
use Rattle.symbols.proofs.table.symbols_of.Given as goal

abbrev pub invariant-symbols : goal.invariant-symbols
invariant-symbols l = l.symbols.items ≡ symbols_of l.table l.strings l.number
