-- The rows of a board, place by place.
use Rattle.std.proofs.Common.{◌≡◌, ℕ, ◌+◌, ◌<◌, ◌≤◌, List, [], drop, get_or, length, refl, subst, sym}
use Rattle.std.proofs.Math.ListN.{drop_of_length-le}
use Rattle.access_map.specs.declared.counting.WorldSteps.{WorldSteps}
use Rattle.access_map.specs.declared.world.Place.{Place}
use Rattle.access_map.specs.Worlds.{end_of, first_of, places}
use Rattle.page_text.proofs.Joining.{SoFar, at_last, items_from, part_on}
use Rattle.page_text.specs.declared.access_rows.AccessRow.{AccessRow}
use Rattle.page_text.specs.declared.access_rows.ShownRows.{ShownRows}
use Rattle.page_text.specs.AccessTables.{AreRows, AreRowsOf, Shows, ShowsRows, max_rows}
use Rattle.page_text.specs.Growing.{AddsRowsOf}
use Rattle.platform.specs.Boards.{Numbers}

-- the rows that a list shows the first of
abbrev Showing : ShownRows → List AccessRow → Type 0
Showing shown all = Shows max_rows all shown.items.items shown.others

-- the rows of one place more
pub rows_on : (columns : List WorldSteps) (board : Numbers) (all : List Place) (i : ℕ) (place d : Place)
    (old new : ShownRows) → i < length all
    → AddsRowsOf columns place (first_of board place) (end_of board place) old new → place ≡ get_or all i d
    → SoFar (AreRowsOf columns board all) (AreRowsOf columns board (drop i all)) (Showing old)
    → SoFar (AreRowsOf columns board all) (AreRowsOf columns board (drop (i + 1) all)) (Showing new)
rows_on columns board all i place d old new below added is so_far =
    part_on (AreRowsOf columns board all) (AreRowsOf columns board (drop i all))
    (AreRows columns place (first_of board place) (end_of board place)) (AreRowsOf columns board (drop (i + 1) all))
    (Showing old) (Showing new) added.rows added.are added.adds
    (λ t followed. subst (λ (ps : List Place). AreRowsOf columns board ps t) (sym (items_from all i place d below is))
    followed) so_far

-- no place is left
pub rows_end : (columns : List WorldSteps) (board : Numbers) (all : List Place) (i : ℕ) (shown : ShownRows)
    → length all ≤ i → all ≡ places board
    → SoFar (AreRowsOf columns board all) (AreRowsOf columns board (drop i all)) (Showing shown)
    → ShowsRows columns board shown
rows_end columns board all i shown few is so_far =
    let whole =
    at_last (AreRowsOf columns board all) (AreRowsOf columns board (drop i all)) (Showing shown)
    (subst (λ (ps : List Place). AreRowsOf columns board ps []) (sym (drop_of_length-le all few)) refl) so_far in
    record {
      all = whole.all;
      right = subst (λ (ps : List Place). AreRowsOf columns board ps whole.all) is whole.are;
      shows = whole.adds;
    }
