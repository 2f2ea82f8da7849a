use Rattle.std.specs.Cmp.{booleans_Decides}
use Rattle.std.proofs.Common.{◌+◌, arith}
use Rattle.access_map.proofs.Spans.{ends_before, gathered_same, gathered_next, gathered_last}
use Rattle.access_map.proofs.sharing.shared.Goals as goal

pub each-preserved-then-current-next : goal.each-preserved-then-current-next
each-preserved-then-current-next c = record {
  gathered = gathered_same _ _ _ c.each.current c.at-next.result c.each.invariant.gathered c.at-next.ensures.first
      c.at-next.ensures.some c.at-next.ensures.right
      ((booleans_Decides c.each.current.is_shared c.at-next.result.is_shared).0 c.if-current-next.true);
  upto = c.at-next.ensures.last;
}

pub each-preserved : goal.each-preserved
each-preserved c = record {
  gathered = rw c.in_ok-put.ensures
      (gathered_next _ _ _ c.each.current c.at-next.result c.each.invariant.gathered c.at-next.ensures.first
      c.at-next.ensures.some c.at-next.ensures.right
      (λ e. let t = (booleans_Decides c.each.current.is_shared c.at-next.result.is_shared).1 e in
      let f = c.if-current-next.false in cc));
  upto = c.at-next.ensures.last;
}

pub returns : goal.returns
returns c =
    rw c.in_ok-put-2.ensures (gathered_last _ _ _ _ _ c.each.current
    (ends_before c.args.board.now (c.each.current.last + 1) (let u = c.each.invariant.upto in omega arith))
    c.each.invariant.gathered)
