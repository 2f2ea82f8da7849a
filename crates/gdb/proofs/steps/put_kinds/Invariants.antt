use Rattle.std.proofs.Common.{take}
use Rattle.gdb.specs.Consoles.{Shown}
use Rattle.trace.specs.Selection.{kinds_text}
use Rattle.gdb.proofs.steps.put_kinds.Given as goal

-- the text of the events so far was put
abbrev pub invariant-events : goal.invariant-events
invariant-events g l =
    Shown (g.W.Out.writing l.fn.out) (g.W.Out.writing l.out) l.fn.console l.console
    (kinds_text l.selection (take l.event-index l.events))
