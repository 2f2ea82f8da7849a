use Rattle.std.proofs.Common.{◌≡◌, ◌++◌, take, drop}
use Rattle.symbols.specs.Tables.{up_to_zero}
use Rattle.symbols.proofs.names.up_to_zero.Given as goal

abbrev pub invariant-loop-at : goal.invariant-loop-at
invariant-loop-at l = take l.at l.bytes ++ up_to_zero (drop l.at l.bytes) ≡ up_to_zero l.bytes
