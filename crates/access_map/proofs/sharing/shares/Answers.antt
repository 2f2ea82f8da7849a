use Rattle.std.proofs.Common.{arith}
use Rattle.access_map.proofs.Spans.{ends_before, shared_none}
use Rattle.access_map.proofs.sharing.shares.Goals as goal

pub returns : goal.returns
returns c =
    shared_none _ _ _ _ c.each.first
    (ends_before c.args.board.now c.each.first (let u = c.each.invariant.upto in omega arith))
    c.each.invariant.none
