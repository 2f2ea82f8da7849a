use Rattle.std.proofs.Common.{refl}
use Rattle.output.proofs.Gathering.{put_on_page}
use Rattle.output.proofs.paged.PagedOut.put_fetch.Goals as goal

pub returns-clause-put : goal.returns-clause-put
returns-clause-put g c gathers at spelled = (
  put_on_page (g.O.Out.writing c.args.self.now.inner).written c.args.self.now.page c.put_fetch.new.self _
      c.args.self.now.at c.args.self.now.within (c.put_fetch.ensures.text at spelled),
  refl,
)
