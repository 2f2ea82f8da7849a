use Rattle.std.proofs.Common.{◌≡◌, drop}
use Rattle.toml.specs.View.{items_view}
use Rattle.board.specs.Values.{are_tables}
use Rattle.board.proofs.events.are_tables.Given as goal

-- all values are tables just where those that are left are
abbrev pub invariant-values : goal.invariant-values
invariant-values l = are_tables (items_view (drop l.value-index l.values)) ≡ are_tables (items_view l.values)
