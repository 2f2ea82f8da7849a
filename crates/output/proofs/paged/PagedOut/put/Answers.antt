use Rattle.std.proofs.Common.{drop}
use Rattle.output.proofs.Gathering.{emptied, passed_on}
use Rattle.output.specs.Output.{with_page}
use Rattle.output.proofs.paged.PagedOut.put.Goals as goal

pub returns-in-Ok : goal.returns-in-Ok
returns-in-Ok g c =
    let old = c.args.self.now in
    passed_on (with_page (drop old.at old.page) (g.O.Out.writing old.inner)) (g.O.Out.writing c.flush.new.self.inner)
    (g.O.Out.writing c.put.new.self) _ c.args.bytes.now c.put.result c.in-Ok.ensures.known
    (emptied _ _ c.in-Ok.ensures.empty) c.in-Ok.ensures.quiet c.put.ensures
