use Rattle.std.proofs.Common.{◌≡◌, arith}
use Rattle.access_map.proofs.Making.{made_same, made_next, made_last}
use Rattle.access_map.proofs.map.intervals_within.Goals as goal

pub each-preserved-then-is_alike : goal.each-preserved-then-is_alike
each-preserved-then-is_alike c = record {
  made = made_same _ _ _ _ c.each.current c.at-next.result c.each.invariant.made c.at-next.ensures.first
      c.at-next.ensures.some c.at-next.ensures.right (c.is_alike.ensures.0 c.if-is_alike.true);
  upto = c.at-next.ensures.last;
}

pub each-preserved : goal.each-preserved
each-preserved c = record {
  made = rw c.in_ok-push.ensures.items
      (made_next _ _ _ _ c.each.current c.at-next.result c.each.invariant.made c.at-next.ensures.first
      c.at-next.ensures.some c.at-next.ensures.right
      (λ e. let t = c.is_alike.ensures.1 e in let f = c.if-is_alike.false in cc));
  upto = c.at-next.ensures.last;
}

pub returns-clause-tiles : goal.returns-clause-tiles
returns-clause-tiles c =
    let last : c.each.current.last ≡ c.args.span.last = let u = c.each.invariant.upto in omega arith in
    rw (c.in_ok-push-2.ensures.items, ← last) (made_last _ _ _ _ _ c.each.invariant.made).0
