use Rattle.std.proofs.Common.{arith}
use Rattle.mpu_table.proofs.Cuts.{parts_more}
use Rattle.mpu_table.proofs.boundaries.boundaries_of.Goals as goal

pub loop-number-preserved : goal.loop-number-preserved
loop-number-preserved c = record {
  parts = parts_more _ _ c.args.registers.now _ c.loop-number.invariant.parts c.add_region.ensures.kept
      (rw c.at.ensures.value at c.add_region.ensures.parts);
  few = let e = c.add_region.ensures.few in let f = c.loop-number.invariant.few in omega (arith, e, f);
}
