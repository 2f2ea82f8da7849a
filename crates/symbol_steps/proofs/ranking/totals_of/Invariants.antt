use Rattle.std.proofs.Common.{◌≡◌, ◌<◌, ◌^◌, drop}
use Rattle.symbol_steps.specs.Rows.{rows_totals}
use Rattle.symbol_steps.specs.Totals.{joined}
use Rattle.symbol_steps.proofs.ranking.totals_of.Given as goal

abbrev pub invariant-rows : goal.invariant-rows
invariant-rows l = record {
  whole : joined l.sum (rows_totals (drop l.row-index l.rows)) ≡ rows_totals l.rows;
  unprivileged : l.sum.unprivileged < 2 ^ 64;
  privileged : l.sum.privileged < 2 ^ 64;
}
