use Rattle.std.proofs.Common.{rules, arith}
use Rattle.mpu_table.proofs.Owned.{made_first, made_same, made_next, made_last}
use Rattle.mpu_table.proofs.sweep.sweep.Goals as goal
use Rattle.mpu_table.proofs.sweep.sweep.Goals.{then-not-is_same, else-not-is_same}

pub each-init : goal.each-init
each-init c = rw c.new-intervals.ensures (record {
  made = made_first _ _ _ c.requires.parts c.owner-region.ensures.value c.owner-region.ensures.within;
  few = omega arith;
})

pub each-preserved : goal.each-preserved
each-preserved c = elim c.if-not-is_same.branch [
  | then-not-is_same w ↦ rw (w.intervals-is, w.first-is, w.region-is) (record {
    made = rw w.push.ensures.items (made_next _ _ _ _ _ _ _ c.requires.parts c.requires.order (omega arith)
        (let h = c.type_inv.points c.each.point-index in search (rules, h)) c.each.invariant.made
        c.owner-next.ensures.value
        (λ e. let t = c.is_same.ensures.1 e in let f = w.if-not-is_same.true in cc) c.owner-next.ensures.within);
    few = let e = w.push.ensures.len in let f = c.each.invariant.few in omega (arith, e, f);
  })
  | else-not-is_same w ↦ rw (w.intervals-is, w.first-is, w.region-is) (record {
    made = made_same _ _ _ _ _ _ _ c.requires.parts c.requires.order (omega arith) c.each.invariant.made
        c.owner-next.ensures.value (c.is_same.ensures.0 w.if-not-is_same.false);
    few = let f = c.each.invariant.few in omega (arith, f);
  })
]

pub returns-clause-tiles : goal.returns-clause-tiles
returns-clause-tiles c = rw c.push-2.ensures.items (made_last _ _ _ _ _ _ c.each-test.false c.each.invariant.made).0
