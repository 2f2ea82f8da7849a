-- How the lists of a table grow. No public contract cites it.
use Rattle.std.specs.Prelude.{ℕ, List, ◌++◌}
use Rattle.access_map.specs.declared.counting.WorldSteps.{WorldSteps}
use Rattle.access_map.specs.declared.world.Place.{Place}
use Rattle.page_text.specs.declared.access_rows.AccessRow.{AccessRow}
use Rattle.page_text.specs.declared.access_rows.ShownRows.{ShownRows}
use Rattle.page_text.specs.declared.shares.Share.{Share}
use Rattle.page_text.specs.declared.shares.ShownShares.{ShownShares}
use Rattle.page_text.specs.AccessTables.{AreRows, Shows, max_rows, max_shares}

-- rows follow those that a list shows
abbrev pub AddsRows : List AccessRow → ShownRows → ShownRows → Type 0
AddsRows rows old new =
    (all : List AccessRow) → Shows max_rows all old.items.items old.others →
    Shows max_rows (all ++ rows) new.items.items new.others

-- the rows of the addresses of a place from a up to b do
pub record AddsRowsOf (columns : List WorldSteps) (place : Place) (a b : ℕ) (old new : ShownRows) : Type 0 where
  pub rows : List AccessRow
  pub are : AreRows columns place a b rows
  pub adds : AddsRows rows old new

-- shares follow those that a list shows
abbrev pub AddsShares : List Share → ShownShares → ShownShares → Type 0
AddsShares shares old new =
    (all : List Share) → Shows max_shares all old.items.items old.others →
    Shows max_shares (all ++ shares) new.items.items new.others

-- shares of one kind do
pub record AddsSome (Are : List Share → Type 0) (old new : ShownShares) : Type 0 where
  pub shares : List Share
  pub are : Are shares
  pub adds : AddsShares shares old new
