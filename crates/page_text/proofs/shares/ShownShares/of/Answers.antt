use Rattle.std.proofs.Common.{arith}
use Rattle.page_text.proofs.SharesMade.{worlds_end, worlds_on}
use Rattle.page_text.proofs.shares.ShownShares.of.Goals as goal
use Rattle.page_text.specs.AccessTables.{AreSharesAmong}
use Rattle.platform.specs.Boards.{numbers_of}

pub worlds-preserved : goal.worlds-preserved
worlds-preserved c =
    let board = numbers_of c.args.board.now in
    worlds_on (AreSharesAmong board 0 c.args.rows.now) board c.args.rows.now c.rows_after.result.now c.worlds.place
    c.index-rows-place.result _ c.worlds.shown c.add_all_of.new.self c.worlds-test.true c.in_ok-add_all_of.ensures
    c.rows_after.ensures c.index-rows-place.is c.worlds.invariant

pub returns : goal.returns
returns c =
    worlds_end (numbers_of c.args.board.now) c.args.rows.now c.worlds.place c.worlds.shown
    (omega (arith, c.worlds-test.false)) c.worlds.invariant
