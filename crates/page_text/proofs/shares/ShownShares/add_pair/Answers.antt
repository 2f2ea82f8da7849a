use Rattle.page_text.proofs.Joining.{where_ok}
use Rattle.page_text.proofs.SharesMade.{two_added}
use Rattle.page_text.proofs.shares.ShownShares.add_pair.Goals as goal
use Rattle.page_text.specs.AccessTables.{AreSharesTo}
use Rattle.platform.specs.Boards.{numbers_of}

pub returns : goal.returns
returns c =
    let board = numbers_of c.args.board.now in
    let one = c.args.one in
    let other = c.args.other in
    where_ok _
    (λ second. two_added (AreSharesTo board one.place one.world.now other.place other.world.now)
    (AreSharesTo board other.place other.world.now one.place one.world.now) c.args.self.now c.add_spans.new.self
    c.add_spans-2.new.self c.in_ok-add_spans.ensures second) c.add_spans-2.ensures
