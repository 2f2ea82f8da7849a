use Rattle.std.proofs.Common.{◌≡◌, not, ◌&&◌, ◌==◌}
use Rattle.platform.specs.Priorities.{some_below, is_in}
use Rattle.nvic.proofs.exceptions.Exceptions.is_other_active.Given as goal

-- whether one was found among the exceptions that were looked at
abbrev pub invariant-each : goal.invariant-each
invariant-each g l =
    let n = g.Self.Exceptions.content l.fn.self in
    l.found ≡ some_below (λ y. not (y == l.number) && is_in n.active y) l.other
