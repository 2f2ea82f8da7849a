use Rattle.machine.proofs.Selecting.{fails_all}
use Rattle.trace.proofs.Selecting.{all_traced}
use Rattle.machine.proofs.machine.Machine.run.Goals as goal

pub returns-clause-written : goal.returns-clause-written
returns-clause-written g c = rw (all_traced c.args.limit c.args.self.now.state) at c.run_view.ensures.written

pub returns-clause-error : goal.returns-clause-error
returns-clause-error g c =
    fails_all _ _ _ (g.W.Out.writing c.args.out.now) (g.W.Out.writing c.run_view.new.out) c.run_view.result
    c.run_view.ensures.error
