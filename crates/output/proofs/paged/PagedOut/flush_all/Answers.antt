use Rattle.std.proofs.Common.{drop}
use Rattle.output.proofs.Gathering.{emptied, flushed_all}
use Rattle.output.specs.Output.{with_page}
use Rattle.output.proofs.paged.PagedOut.flush_all.Goals as goal

pub returns-in-Ok : goal.returns-in-Ok
returns-in-Ok g c =
    let old = c.args.self.now in
    flushed_all (with_page (drop old.at old.page) (g.O.Out.writing old.inner)) (g.O.Out.writing c.flush.new.self.inner)
    (g.O.Out.writing c.flush_all.new.self) _ c.flush_all.result c.in-Ok.ensures.known
    (emptied _ _ c.in-Ok.ensures.empty) c.in-Ok.ensures.quiet c.flush_all.ensures
