use Rattle.std.proofs.Common.{arith, refl}
use Rattle.page_text.proofs.PlacesMade.{rows_end, rows_on}
use Rattle.page_text.proofs.access_rows.ShownRows.of.Goals as goal
use Rattle.platform.specs.Boards.{numbers_of}

pub places-preserved : goal.places-preserved
places-preserved c =
    rows_on c.args.columns.now (numbers_of c.args.board.now) c.places-all.result.now c.places.place-index _ _
    c.places.shown c.add_place.new.self c.places-test.true c.in_ok-add_place.ensures refl c.places.invariant

pub returns : goal.returns
returns c =
    rows_end c.args.columns.now (numbers_of c.args.board.now) c.places-all.result.now c.places.place-index
    c.places.shown (omega (arith, c.places-test.false)) c.places-all.ensures c.places.invariant
