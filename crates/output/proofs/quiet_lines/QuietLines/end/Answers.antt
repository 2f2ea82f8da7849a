use Rattle.std.proofs.Common.{false}
use Rattle.output.proofs.Emitting.{found}
use Rattle.output.specs.Emitting.{emission}
use Rattle.output.proofs.quiet_lines.QuietLines.end.Goals as goal

pub returns-clause-text : goal.returns-clause-text
returns-clause-text g c =
    found g.V.View.SELECTION (emission g.O.Out.writing
    c.args.self.now.out.ghost_name c.args.self.now.out.now c.args.self.now.history.items)
    (g.O.Out.writing c.args.self.now.out.now) false c.args.self.now.writes
