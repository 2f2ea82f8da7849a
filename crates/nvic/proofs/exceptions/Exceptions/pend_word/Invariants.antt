use Rattle.std.proofs.Common.{◌≡◌, ◌*◌}
use Rattle.platform.specs.Priorities.{Nvic, with_due_below}
use Rattle.nvic.proofs.exceptions.Exceptions.pend_word.Given as goal

-- of the exceptions that were looked at, those are pending that are due
abbrev pub invariant-each : goal.invariant-each
invariant-each g l =
    (n : Nvic) → g.Self.Exceptions.content l.fn.self ≡ with_due_below n l.due (l.word * 32)
    → g.Self.Exceptions.content l.self ≡ with_due_below n l.due l.number
