use Rattle.std.proofs.Common.{◌≡◌, ◌&&◌}
use Rattle.platform.specs.Priorities.{some_below, is_interrupt, is_in}
use Rattle.nvic.proofs.exceptions.Exceptions.is_interrupt_pending.Given as goal

-- whether one was found among the exceptions that were looked at
abbrev pub invariant-each : goal.invariant-each
invariant-each g l =
    let n = g.Self.Exceptions.content l.fn.self in
    l.found ≡ some_below (λ x. is_interrupt n.interrupts x && is_in n.pending x) l.number
