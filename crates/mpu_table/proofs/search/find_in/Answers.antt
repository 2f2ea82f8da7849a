use Rattle.std.proofs.Common.{arith, sym}
use Rattle.std.proofs.lemmas.Bool.{ltb-true, ltb-false}
use Rattle.mpu_table.proofs.Halves.{among_all, among_upper, among_lower, looks_few}
use Rattle.mpu_table.proofs.search.find_in.Goals as goal

pub halving-init : goal.halving-init
halving-init c = among_all _ _ c.requires.tiles (omega arith) c.requires.few

pub ends_before-requires-clause-few : goal.ends_before-requires-clause-few
ends_before-requires-clause-few c = looks_few _ _ _ _ _ c.halving.invariant c.halving-test.true

pub halving-preserved-then-ends_before : goal.halving-preserved-then-ends_before
halving-preserved-then-ends_before c =
    rw c.ends_before.ensures.looks (among_upper _ _ _ _ _ _ c.requires.tiles c.halving.invariant
    c.middle_of-middle.ensures.above c.middle_of-middle.ensures.below c.middle_of-middle.ensures.right
    (ltb-true _ _ (sym c.if-ends_before.ensures.value)))

pub halving-preserved : goal.halving-preserved
halving-preserved c =
    rw c.ends_before.ensures.looks (among_lower _ _ _ _ _ _ c.halving.invariant
    c.middle_of-middle.ensures.above c.middle_of-middle.ensures.below c.middle_of-middle.ensures.left
    (ltb-false _ _ (sym c.if-ends_before.ensures.value)))
