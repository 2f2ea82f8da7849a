use Rattle.std.proofs.Common.{◌+◌, ◌≤◌, drop, length, refl, arith}
use Rattle.std.proofs.Math.ListN.{drop_of_length-le}
use Rattle.platform.specs.Boards.{numbers_of}
use Rattle.std.proofs.Math.Nat.{add_assoc}
use Rattle.access_map.specs.WorldText.{ArePairTexts, IsPairText}
use Rattle.access_map.proofs.Joining.{none_left, part_on, put_on, rows_from}
use Rattle.access_map.proofs.text.pair_texts.Goals as goal

pub each-preserved : goal.each-preserved
each-preserved c =
    let board = numbers_of c.args.board.now in
    let k = c.args.number + 1 + c.each.place in
    rw (← add_assoc (c.args.number + 1) c.each.place 1)
    (part_on (ArePairTexts board c.args.allowed.now c.args.number c.args.world.now k)
    (IsPairText board c.args.allowed.now c.args.number c.args.world.now k c.index-others-place.result.world)
    (ArePairTexts board c.args.allowed.now c.args.number c.args.world.now (k + 1)
    (drop (c.each.place + 1) c.args.others.now))
    (ArePairTexts board c.args.allowed.now c.args.number c.args.world.now (c.args.number + 1) c.args.others.now)
    (drop c.each.place c.args.others.now) c.index-others-place.result (drop (c.each.place + 1) c.args.others.now)
    c.each.text.items c.in_ok-lines.lines.items _
    (rows_from c.args.others.now c.each.place _ _ c.each-test.true c.index-others-place.is) c.in_ok-lines.ensures
    (put_on _ _ _ _ c.in_ok-extend_from_slice.ensures.items c.as_slice.ensures.value) (λ t made. made) c.each.invariant)

pub returns : goal.returns
returns c =
    let board = numbers_of c.args.board.now in
    let few : length c.args.others.now ≤ c.each.place = omega (arith, c.each-test.false) in
    none_left (ArePairTexts board c.args.allowed.now c.args.number c.args.world.now (c.args.number + 1 + c.each.place))
    (ArePairTexts board c.args.allowed.now c.args.number c.args.world.now (c.args.number + 1) c.args.others.now)
    (drop c.each.place c.args.others.now) c.each.text.items (drop_of_length-le c.args.others.now few) refl
    c.each.invariant
