use Rattle.command_line.proofs.stops.breakpoint_named.Given as goal
use Rattle.command_line.proofs.Searching.{NoneBelow}
use Rattle.platform.specs.declared.stop.Stop.TheVariants.{Breakpoint}
use Rattle.platform.specs.Text.{stop_text}

abbrev pub invariant-numbers : goal.invariant-numbers
invariant-numbers l = NoneBelow (λ n. stop_text (Breakpoint n)) l.fn.words l.number
