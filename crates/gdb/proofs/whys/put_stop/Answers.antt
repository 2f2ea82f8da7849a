use Rattle.gdb.proofs.Showing.{shown_none}
use Rattle.gdb.proofs.whys.put_stop.Goals as goal

pub returns-in-None : goal.returns-in-None
returns-in-None g c = rw c.in-None.is (shown_none (g.W.Out.writing c.args.out.now) c.args.console.now)
