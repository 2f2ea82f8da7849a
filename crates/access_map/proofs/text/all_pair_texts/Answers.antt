use Rattle.std.proofs.Common.{◌+◌, ◌≤◌, List, drop, length, refl, subst, arith}
use Rattle.std.proofs.Math.ListN.{drop_of_length-le}
use Rattle.access_map.specs.declared.counting.WorldSteps.{WorldSteps}
use Rattle.platform.specs.Boards.{numbers_of}
use Rattle.access_map.specs.WorldText.{AreAllPairTexts, ArePairTexts}
use Rattle.access_map.proofs.Joining.{none_left, part_on, put_on, rows_from}
use Rattle.access_map.proofs.text.all_pair_texts.Goals as goal

pub each-preserved : goal.each-preserved
each-preserved c =
    let board = numbers_of c.args.board.now in
    part_on (AreAllPairTexts board c.args.allowed.now (c.each.place + 1))
    (ArePairTexts board c.args.allowed.now (c.each.place + 1) c.index-rows-place.result.world (c.each.place + 1 + 1)
    (drop (c.each.place + 1) c.args.rows.now))
    (AreAllPairTexts board c.args.allowed.now (c.each.place + 1 + 1) (drop (c.each.place + 1) c.args.rows.now))
    (AreAllPairTexts board c.args.allowed.now 1 c.args.rows.now) (drop c.each.place c.args.rows.now)
    c.index-rows-place.result (drop (c.each.place + 1) c.args.rows.now) c.each.text.items c.in_ok-lines.lines.items _
    (rows_from c.args.rows.now c.each.place _ _ c.each-test.true c.index-rows-place.is)
    (subst
    (λ (rows : List WorldSteps).
    ArePairTexts board c.args.allowed.now (c.each.place + 1) c.index-rows-place.result.world (c.each.place + 1 + 1) rows
    c.in_ok-lines.lines.items)
    c.rows_after-later.ensures c.in_ok-lines.ensures)
    (put_on _ _ _ _ c.in_ok-extend_from_slice.ensures.items c.as_slice.ensures.value) (λ t made. made) c.each.invariant

pub returns : goal.returns
returns c =
    let board = numbers_of c.args.board.now in
    let few : length c.args.rows.now ≤ c.each.place = omega (arith, c.each-test.false) in
    none_left (AreAllPairTexts board c.args.allowed.now (c.each.place + 1))
    (AreAllPairTexts board c.args.allowed.now 1 c.args.rows.now) (drop c.each.place c.args.rows.now)
    c.each.text.items (drop_of_length-le c.args.rows.now few) refl c.each.invariant
