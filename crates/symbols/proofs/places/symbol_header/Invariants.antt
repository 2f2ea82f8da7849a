use Rattle.std.proofs.Common.{◌≡◌, ◌+◌, ◌≤◌, length, IfSome}
use Rattle.symbols.specs.Tables.{symbol_header}
use Rattle.symbols.proofs.places.symbol_header.Given as goal

abbrev pub invariant-headers : goal.invariant-headers
invariant-headers l = record {
  value : l.first ≡ symbol_header l.file l.table l.number;
  within : IfSome l.first (λ at. at + 40 ≤ length l.file);
}
