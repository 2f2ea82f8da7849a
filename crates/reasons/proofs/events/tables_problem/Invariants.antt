use Rattle.std.proofs.Common.{◌≡◌, ◌+◌, drop}
use Rattle.toml.specs.View.{items_view}
use Rattle.board.specs.Values.{are_tables}
use Rattle.reasons.specs.Events.{first_untabled}
use Rattle.reasons.proofs.events.tables_problem.Given as goal

-- the first of all values that isn't a table is the first of those that are left
abbrev pub invariant-values : goal.invariant-values
invariant-values l = record {
  first : first_untabled (l.index + 1) (items_view (drop l.index l.values)) ≡ first_untabled 1 (items_view l.values);
  tables : are_tables (items_view (drop l.index l.values)) ≡ are_tables (items_view l.values);
}
