use Rattle.output.proofs.Emitting.{cut_on, none_put, put_on}
use Rattle.output.proofs.event_lines.put_kinds.Goals as goal

pub events-init : goal.events-init
events-init g c = none_put c.args.selection (g.O.Out.writing c.args.out.now)

pub events-preserved : goal.events-preserved
events-preserved g c =
    put_on c.args.selection (g.O.Out.writing c.args.out.now) (g.O.Out.writing c.events.out)
    (g.O.Out.writing c.put_selected.new.out) _ _ _ c.events-test.true c.events.invariant c.in-Ok.ensures

pub returns-in-Err : goal.returns-in-Err
returns-in-Err g c =
    cut_on c.args.selection (g.O.Out.writing c.args.out.now) (g.O.Out.writing c.events.out)
    (g.O.Out.writing c.put_selected.new.out) _ _ _ c.events-test.true c.events.invariant c.in-Err.ensures
