use Rattle.std.proofs.Common.{◌∙◌, sym, arith}
use Rattle.std.proofs.lemmas.Bool.Decides.{nat_tests}
use Rattle.encodings.proofs.Letters.{joined_next, joined_end}
use Rattle.encodings.proofs.Places.{grows}
use Rattle.encodings.proofs.pattern.field.Goals as goal
use Rattle.encodings.proofs.pattern.field.Goals.{then-places-i, else-places-i}

pub loop-i-preserved : goal.loop-i-preserved
loop-i-preserved c =
    let next = joined_next c.args.letter c.args.places.now c.loop-i.i c.args.x c.loop-i.field 0 c.loop-i-test.true in
    elim c.if-places-i.branch [
      | then-places-i w ↦ rw w.field-is (record {
        rest = grind (arith, nat_tests, next, w.if-places-i.true, c.loop-i.invariant.rest);
        small = grows _ _ _ c.loop-i.invariant.small (omega arith);
      })
      | else-places-i w ↦ rw w.field-is (record {
        rest = grind (arith, nat_tests, next, w.if-places-i.false, c.loop-i.invariant.rest);
        small = omega (arith, grows c.loop-i.field 0 _ c.loop-i.invariant.small (omega arith));
      })
    ]

pub returns : goal.returns
returns c =
    sym (joined_end _ c.args.places.now c.loop-i.i c.args.x _ (omega (arith, c.loop-i-test.false)))
    ∙ c.loop-i.invariant.rest
