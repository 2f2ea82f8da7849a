use Rattle.gdb.proofs.Showing.{events_cut, events_on, shown_none}
use Rattle.gdb.proofs.NeededLines.{needed-append, needed-nil}
use Rattle.gdb.specs.Whys.{needed_lines}
use Rattle.gdb.proofs.whys.put_needed_lines.Goals as goal

pub events-init : goal.events-init
events-init g c = rw (needed-nil c.args.settings.now c.args.watchpoints.now)
    (shown_none (g.W.Out.writing c.args.out.now) c.args.console.now)

pub events-preserved : goal.events-preserved
events-preserved g c =
    events_on (needed_lines c.args.settings.now c.args.watchpoints.now)
    (needed-append c.args.settings.now c.args.watchpoints.now) (g.W.Out.writing c.args.out.now)
    (g.W.Out.writing c.events.out) (g.W.Out.writing c.put_line_if_needed.new.out) c.args.console.now c.events.console
    c.put_line_if_needed.new.console _ _ _ c.events-test.true c.events.invariant c.in-Ok.ensures

pub returns-in-Err : goal.returns-in-Err
returns-in-Err g c =
    events_cut (needed_lines c.args.settings.now c.args.watchpoints.now)
    (needed-append c.args.settings.now c.args.watchpoints.now) (g.W.Out.writing c.args.out.now)
    (g.W.Out.writing c.events.out) (g.W.Out.writing c.put_line_if_needed.new.out) c.args.console.now c.events.console
    _ _ _ c.events-test.true c.events.invariant c.in-Err.ensures
