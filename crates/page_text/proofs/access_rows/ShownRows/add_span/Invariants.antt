use Rattle.std.proofs.Common.{◌-◌, ◌≤◌}
use Rattle.page_text.proofs.RowsMade.{AreMade}
use Rattle.page_text.proofs.access_rows.ShownRows.add_span.Given as goal

-- the rows are right up to the current one, which is as long as the addresses that were read
abbrev pub invariant-rows : goal.invariant-rows
invariant-rows l = record {
  made : AreMade l.columns l.place l.span.first l.fn.self l.self l.current;
  upto : l.current.last ≤ l.span.last;
}

abbrev pub decreases-rows : goal.decreases-rows
decreases-rows l = l.span.last - l.current.last
