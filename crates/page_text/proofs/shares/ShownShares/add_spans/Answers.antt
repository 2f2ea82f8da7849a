use Rattle.std.proofs.Common.{arith, refl, []}
use Rattle.access_map.specs.Sharing.{AreShared}
use Rattle.page_text.proofs.SharesMade.{none_added, spans_end, spans_on}
use Rattle.page_text.proofs.shares.ShownShares.add_spans.Goals as goal
use Rattle.platform.specs.Boards.{numbers_of}

pub spans-init : goal.spans-init
spans-init c = none_added _ c.args.self.now

pub spans-preserved : goal.spans-preserved
spans-preserved c =
    spans_on c.args.writer.place c.args.reader.place c.deref-span-items.result.now c.spans.span-index _ _
    c.args.self.now c.spans.self c.add.new.self c.spans-test.true c.in_ok-add.ensures refl c.spans.invariant

pub returns : goal.returns
returns c =
    let are :
    AreShared (numbers_of c.args.board.now) c.args.writer.world.now c.args.reader.world.now []
    c.deref-span-items.result.now =
    rw c.deref-span-items.ensures.value c.in_ok-spans.ensures in
    spans_end (numbers_of c.args.board.now) c.args.writer.place c.args.writer.world.now c.args.reader.place
    c.args.reader.world.now c.deref-span-items.result.now c.spans.span-index c.args.self.now c.spans.self
    (omega (arith, c.spans-test.false)) are c.spans.invariant
