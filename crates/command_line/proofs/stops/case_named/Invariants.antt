use Rattle.command_line.proofs.stops.case_named.Given as goal
use Rattle.command_line.proofs.Searching.{NoneBefore}
use Rattle.platform.specs.Text.{stop_text}

abbrev pub invariant-cases : goal.invariant-cases
invariant-cases g l = NoneBefore (λ x. stop_text (g.N.NamedStop.stop x)) g.N.NamedStop.all l.fn.words l.case-index
