use Rattle.std.proofs.Common.{take}
use Rattle.debugger_commands.specs.Conditions.{written}
use Rattle.output.specs.Output.{WritesAll}
use Rattle.platform.specs.Events.{lines}
use Rattle.debugger.proofs.runs.put_lines.Given as goal

-- the text of the events so far went out
abbrev pub invariant-events : goal.invariant-events
invariant-events g l =
    WritesAll (g.W.Out.writing l.fn.out) (g.W.Out.writing l.out)
    (lines (written l.settings (take l.event-index l.events)))
