use Rattle.std.proofs.Common.{◌∙◌, sym}
use Rattle.platform.specs.Boards.{blank, numbers_of}
use Rattle.machine.proofs.Loading.{not_placed}
use Rattle.machine.proofs.start.are_placed.Goals as goal

pub returns-then-not-is_placed : goal.returns-then-not-is_placed
returns-then-not-is_placed c =
    let m = blank (numbers_of c.args.board.now) in
    sym (sym c.segments.invariant ∙ not_placed m c.args.segments.now c.segments.segment-index _ c.segments-test.true
    (sym c.if-not-is_placed.ensures))
