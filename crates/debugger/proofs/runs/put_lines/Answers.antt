use Rattle.debugger.proofs.Chosen.{cut_in, none_put, put_on}
use Rattle.debugger.proofs.runs.put_lines.Goals as goal

pub events-init : goal.events-init
events-init g c = none_put c.args.settings.now (g.W.Out.writing c.args.out.now)

pub events-preserved : goal.events-preserved
events-preserved g c =
    put_on c.args.settings.now (g.W.Out.writing c.args.out.now) (g.W.Out.writing c.events.out)
    (g.W.Out.writing c.put_line.new.out) _ _ _ c.events-test.true c.events.invariant c.in-Ok.ensures

pub returns-in-Err : goal.returns-in-Err
returns-in-Err g c =
    cut_in c.args.settings.now (g.W.Out.writing c.args.out.now) (g.W.Out.writing c.events.out)
    (g.W.Out.writing c.put_line.new.out) _ _ _ c.events-test.true c.events.invariant c.in-Err.ensures
