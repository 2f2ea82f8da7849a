use Rattle.std.proofs.Common.{take}
use Rattle.gdb.specs.Consoles.{Shown}
use Rattle.gdb.specs.Whys.{needed_lines}
use Rattle.gdb.proofs.whys.put_needed_lines.Given as goal

-- the lines of the events so far were put
abbrev pub invariant-events : goal.invariant-events
invariant-events g l =
    Shown (g.W.Out.writing l.fn.out) (g.W.Out.writing l.out) l.fn.console l.console
    (needed_lines l.settings l.watchpoints (take l.event-index l.events))
