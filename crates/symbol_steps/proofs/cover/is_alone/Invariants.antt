use Rattle.std.proofs.Common.{◌≡◌, drop}
use Rattle.symbol_steps.specs.Ends.{is_alone}
use Rattle.symbol_steps.proofs.cover.is_alone.Given as goal

abbrev pub invariant-loop-other : goal.invariant-loop-other
invariant-loop-other l = is_alone (drop l.other-index l.symbols) l.symbol l.end ≡ is_alone l.symbols l.symbol l.end
