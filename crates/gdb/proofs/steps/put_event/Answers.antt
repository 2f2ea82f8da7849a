use Rattle.gdb.proofs.Showing.{shown_none}
use Rattle.trace.proofs.Selecting.{not_selected}
use Rattle.gdb.proofs.steps.put_event.Goals as goal

pub returns-then-not-selects : goal.returns-then-not-selects
returns-then-not-selects g c =
    rw (not_selected c.args.selection c.args.event.now cc)
    (shown_none (g.W.Out.writing c.args.out.now) c.args.console.now)
