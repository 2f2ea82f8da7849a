use Rattle.std.proofs.Common.{sym, subst, ◌∙◌, List}
use Rattle.std.specs.List.{All}
use Rattle.access_map.specs.declared.counting.WorldSteps.{WorldSteps}
use Rattle.access_map.specs.Sharing.{AreWorldsApart}
use Rattle.platform.specs.Boards.{numbers_of}
use Rattle.access_map.proofs.Pairs.{fit_up_to, fits_later}
use Rattle.access_map.proofs.apart.are_pairs_apart.Goals as goal

pub returns-then-not-is_apart_from_all : goal.returns-then-not-is_apart_from_all
returns-then-not-is_apart_from_all c = (
  λ e. absurd cc,
  λ all.
      let fits = λ (row other : WorldSteps).
      AreWorldsApart (numbers_of c.args.board.now) row.world other.world c.args.allowed.now in
      sym c.if-not-is_apart_from_all.true
      ∙ c.is_apart_from_all.ensures.1
      (subst (λ (rows : List WorldSteps). All (fits c.index-rows-place.result) rows) (sym c.rows_after.ensures)
      (fits_later fits c.args.rows.now c.each.place _ _ c.each-test.true c.index-rows-place.is all)),
)

pub each-preserved : goal.each-preserved
each-preserved c =
    let fits = λ (row other : WorldSteps).
    AreWorldsApart (numbers_of c.args.board.now) row.world other.world c.args.allowed.now in
    fit_up_to fits c.args.rows.now c.each.place _ _ c.each-test.true c.index-rows-place.is
    (subst (λ (rows : List WorldSteps). All (fits c.index-rows-place.result) rows) c.rows_after.ensures
    (c.is_apart_from_all.ensures.0 c.if-not-is_apart_from_all.false))
    c.each.invariant
