use Rattle.std.proofs.Common.{◌≡◌}
use Rattle.platform.specs.Priorities.{best_below}
use Rattle.nvic.proofs.plain.PlainExceptionsExceptions.best.Given as goal

-- what was found so far is the best of the exceptions that were looked at
abbrev pub invariant-each : goal.invariant-each
invariant-each l = l.best ≡ best_below l.fn.self l.number
