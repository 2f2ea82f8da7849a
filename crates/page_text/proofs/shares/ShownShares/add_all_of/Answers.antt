use Rattle.std.proofs.Common.{◌+◌, add-zero, arith}
use Rattle.std.proofs.Math.Nat.{add_assoc}
use Rattle.page_text.proofs.SharesMade.{none_added, others_end, others_on}
use Rattle.page_text.proofs.shares.ShownShares.add_all_of.Goals as goal
use Rattle.page_text.specs.AccessTables.{AreSharesWith}
use Rattle.platform.specs.Boards.{numbers_of}

pub others-init : goal.others-init
others-init c = rw add-zero (none_added _ c.args.self.now)

pub others-preserved : goal.others-preserved
others-preserved c =
    let board = numbers_of c.args.board.now in
    let j = c.args.one.place in
    rw (← add_assoc (j + 1) c.others.next 1)
    (others_on (AreSharesWith board j c.args.one.world.now (j + 1) c.args.later.now) board j c.args.one.world.now
    (j + 1 + c.others.next) c.args.later.now c.others.next c.index-later-next.result _ c.args.self.now c.others.self
    c.add_pair.new.self c.others-test.true c.in_ok-add_pair.ensures c.index-later-next.is c.others.invariant)

pub returns : goal.returns
returns c =
    let board = numbers_of c.args.board.now in
    let j = c.args.one.place in
    others_end (AreSharesWith board j c.args.one.world.now (j + 1) c.args.later.now) board j c.args.one.world.now
    (j + 1 + c.others.next) c.args.later.now c.others.next c.args.self.now c.others.self
    (omega (arith, c.others-test.false)) c.others.invariant
