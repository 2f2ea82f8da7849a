use Rattle.std.proofs.Common.{◌+◌, ◌≤◌, drop, length, refl, arith}
use Rattle.std.proofs.Math.ListN.{drop_of_length-le}
use Rattle.platform.specs.Boards.{numbers_of}
use Rattle.access_map.specs.Names.{shown_name}
use Rattle.access_map.specs.WorldText.{AreWorldTexts, IsWorldText}
use Rattle.access_map.proofs.Joining.{none_left, part_on, put_on, rows_from}
use Rattle.access_map.proofs.text.world_texts.Goals as goal

pub each-preserved : goal.each-preserved
each-preserved c =
    let board = numbers_of c.args.board.now in
    let name = shown_name c.args.symbols.now.strings.now c.args.symbols.now.list.items in
    part_on (AreWorldTexts board name (c.each.place + 1))
    (IsWorldText board name (c.each.place + 1) c.index-rows-place.result)
    (AreWorldTexts board name (c.each.place + 1 + 1) (drop (c.each.place + 1) c.args.rows.now))
    (AreWorldTexts board name 1 c.args.rows.now) (drop c.each.place c.args.rows.now) c.index-rows-place.result
    (drop (c.each.place + 1) c.args.rows.now) c.each.text.items c.in_ok-lines.lines.items _
    (rows_from c.args.rows.now c.each.place _ _ c.each-test.true c.index-rows-place.is) c.in_ok-lines.ensures
    (put_on _ _ _ _ c.in_ok-extend_from_slice.ensures.items c.as_slice.ensures.value) (λ t made. made) c.each.invariant

pub returns : goal.returns
returns c =
    let board = numbers_of c.args.board.now in
    let name = shown_name c.args.symbols.now.strings.now c.args.symbols.now.list.items in
    let few : length c.args.rows.now ≤ c.each.place = omega (arith, c.each-test.false) in
    none_left (AreWorldTexts board name (c.each.place + 1)) (AreWorldTexts board name 1 c.args.rows.now)
    (drop c.each.place c.args.rows.now) c.each.text.items (drop_of_length-le c.args.rows.now few) refl
    c.each.invariant
