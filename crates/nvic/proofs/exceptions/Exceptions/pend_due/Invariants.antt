use Rattle.std.proofs.Common.{◌≡◌, ◌*◌}
use Rattle.platform.specs.Priorities.{with_due_below}
use Rattle.nvic.proofs.exceptions.Exceptions.pend_due.Given as goal

-- of the words that were looked at, those are pending that are due
abbrev pub invariant-words : goal.invariant-words
invariant-words g l =
    g.Self.Exceptions.content l.self ≡ with_due_below (g.Self.Exceptions.content l.fn.self) l.due (l.word * 32)
