use Rattle.std.proofs.Common.{◌≡◌}
use Rattle.platform.specs.Priorities.{highest_active}
use Rattle.nvic.proofs.exceptions.Exceptions.active_priority.Given as goal

-- what was found so far is the least of the exceptions that were looked at
abbrev pub invariant-each : goal.invariant-each
invariant-each g l = l.least ≡ highest_active (g.Self.Exceptions.content l.fn.self) l.number
