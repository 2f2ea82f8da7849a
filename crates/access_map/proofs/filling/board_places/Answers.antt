use Rattle.std.proofs.Common.{arith}
use Rattle.access_map.proofs.PlacesMade.{filled_last, filled_next, filled_same}
use Rattle.access_map.proofs.filling.board_places.Goals as goal

pub each-preserved-then-is_same_kind : goal.each-preserved-then-is_same_kind
each-preserved-then-is_same_kind c =
    filled_same _ _ c.each.current c.at-next.result c.each.invariant c.at-next.ensures.first c.at-next.ensures.some
    c.at-next.ensures.right (c.is_same_kind.ensures.0 c.if-is_same_kind.true)

pub each-preserved : goal.each-preserved
each-preserved c =
    rw c.in_ok-put.ensures
    (filled_next _ _ c.each.current c.at-next.result c.each.invariant c.at-next.ensures.first c.at-next.ensures.some
    c.at-next.ensures.right
    (λ e. let t = c.is_same_kind.ensures.1 e in let f = c.if-is_same_kind.false in cc))

pub returns : goal.returns
returns c =
    rw c.in_ok-put-2.ensures
    (filled_last c.args.board.now c.args.devices.now _ c.each.current (omega (arith, c.each-test.false))
    c.each.invariant)
