use Rattle.gdb.proofs.Showing.{events_cut, events_on, shown_none}
use Rattle.trace.proofs.Selecting.{kinds-append, kinds-nil}
use Rattle.trace.specs.Selection.{kinds_text}
use Rattle.gdb.proofs.steps.put_kinds.Goals as goal

pub events-init : goal.events-init
events-init g c = rw (kinds-nil c.args.selection) (shown_none (g.W.Out.writing c.args.out.now) c.args.console.now)

pub events-preserved : goal.events-preserved
events-preserved g c =
    events_on (kinds_text c.args.selection) (kinds-append c.args.selection) (g.W.Out.writing c.args.out.now)
    (g.W.Out.writing c.events.out) (g.W.Out.writing c.put_event.new.out) c.args.console.now c.events.console
    c.put_event.new.console _ _ _ c.events-test.true c.events.invariant c.in-Ok.ensures

pub returns-in-Err : goal.returns-in-Err
returns-in-Err g c =
    events_cut (kinds_text c.args.selection) (kinds-append c.args.selection) (g.W.Out.writing c.args.out.now)
    (g.W.Out.writing c.events.out) (g.W.Out.writing c.put_event.new.out) c.args.console.now c.events.console
    _ _ _ c.events-test.true c.events.invariant c.in-Err.ensures
