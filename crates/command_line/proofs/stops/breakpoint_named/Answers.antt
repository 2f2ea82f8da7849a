use Rattle.std.proofs.Common.{◌<◌, arith}
use Rattle.command_line.proofs.stops.breakpoint_named.Goals as goal
use Rattle.command_line.proofs.Searching.{none_more}
use Rattle.platform.specs.declared.stop.Stop.TheVariants.{Breakpoint}
use Rattle.platform.specs.Text.{stop_text}

pub numbers-preserved : goal.numbers-preserved
numbers-preserved c =
    none_more (λ n. stop_text (Breakpoint n)) c.args.words.now c.numbers.number _ c.numbers.invariant
    c.has_words.ensures c.if-has_words.false

pub returns-clause-none : goal.returns-clause-none
returns-clause-none c =
    λ none number below.
    let within : number < c.numbers.number = omega (arith, c.numbers-test.false, below) in
    c.numbers.invariant number within
