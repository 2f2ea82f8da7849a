use Rattle.std.proofs.Common.{arith}
use Rattle.mpu_table.proofs.Cuts.{has_more}
use Rattle.mpu_table.proofs.boundaries.Pieces.add_to.Goals as goal

pub each-preserved : goal.each-preserved
each-preserved c = record {
  has = has_more _ _ _ _ _ c.each.invariant.has c.add.ensures.kept (rw c.boundary.ensures at c.add.ensures.has);
  kept = λ x h. c.add.ensures.kept x (c.each.invariant.kept x h);
  few = let e = c.add.ensures.few in let f = c.each.invariant.few in omega (arith, e, f);
}
