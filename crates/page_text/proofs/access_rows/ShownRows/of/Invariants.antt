use Rattle.std.proofs.Common.{List, drop}
use Rattle.platform.specs.Boards.{numbers_of}
use Rattle.page_text.proofs.Joining.{SoFar}
use Rattle.page_text.proofs.access_rows.ShownRows.of.Given as goal
use Rattle.page_text.specs.AccessTables.{AreRowsOf, Shows, max_rows}
use Rattle.page_text.specs.declared.access_rows.AccessRow.{AccessRow}

-- what the rows so far lack are those of the other places
abbrev pub invariant-places : goal.invariant-places
invariant-places l =
    SoFar (AreRowsOf l.columns (numbers_of l.board) l.all)
    (AreRowsOf l.columns (numbers_of l.board) (drop l.place-index l.all))
    (λ (all : List AccessRow). Shows max_rows all l.shown.items.items l.shown.others)
