use Rattle.std.proofs.Common.{take}
use Rattle.output.specs.Output.{WritesAll}
use Rattle.trace.specs.Selection.{kinds_text}
use Rattle.output.proofs.event_lines.put_kinds.Given as goal

-- the text of the events so far went out
abbrev pub invariant-events : goal.invariant-events
invariant-events g l =
    WritesAll (g.O.Out.writing l.fn.out) (g.O.Out.writing l.out)
    (kinds_text l.selection (take l.event-index l.events))
