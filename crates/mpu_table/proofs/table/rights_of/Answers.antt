use Rattle.std.proofs.Common.{arith, ◌∙◌}
use Rattle.std.proofs.lemmas.List.{length-set}
use Rattle.mpu_table.proofs.Deciding.{rights_more}
use Rattle.mpu_table.proofs.table.rights_of.Goals as goal

pub loop-number-preserved : goal.loop-number-preserved
loop-number-preserved c = record {
  rights = rights_more _ c.args.registers.now _ _ (let e = c.loop-number.invariant.places in omega (arith, e))
      c.loop-number.invariant.rights
      (rw c.at.ensures.value at c.of.ensures.permission) (rw c.at.ensures.value at c.of.ensures.never_executes);
  places = length-set _ _ _ ∙ c.loop-number.invariant.places;
}
