use Rattle.std.proofs.Common.{◌≡◌, ◌≤◌}
use Rattle.page_text.proofs.access_rows.AccessRow.at.Given as goal
use Rattle.page_text.proofs.RowsMade.{HasColumns}

-- the rights of the columns that were read are right
abbrev pub invariant-columns : goal.invariant-columns
invariant-columns l = record {
  first : l.row.first ≡ l.fn.within.first;
  some : l.fn.within.first ≤ l.row.last;
  last : l.row.last ≤ l.fn.within.last;
  right : HasColumns l.columns l.place l.column l.row;
}
