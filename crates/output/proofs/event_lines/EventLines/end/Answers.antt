use Rattle.output.proofs.Emitting.{found}
use Rattle.output.specs.Emitting.{emission}
use Rattle.output.proofs.event_lines.EventLines.end.Goals as goal

pub returns-then-self : goal.returns-then-self
returns-then-self g c =
    rw c.if-self.true at (found g.V.View.SELECTION (emission g.O.Out.writing
    c.args.self.now.out.ghost_name c.args.self.now.out.now c.args.self.now.history.items)
    (g.O.Out.writing c.args.self.now.out.now) c.args.self.now.failed
    c.args.self.now.writes)

pub returns-else-self : goal.returns-else-self
returns-else-self g c =
    rw c.if-self.false at (found g.V.View.SELECTION (emission g.O.Out.writing
    c.args.self.now.out.ghost_name c.args.self.now.out.now c.args.self.now.history.items)
    (g.O.Out.writing c.args.self.now.out.now) c.args.self.now.failed
    c.args.self.now.writes)
