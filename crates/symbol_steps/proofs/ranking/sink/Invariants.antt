use Rattle.std.proofs.Common.{◌≡◌, ◌++◌, take, drop}
use Rattle.symbol_steps.specs.Rows.{with_row}
use Rattle.symbol_steps.proofs.ranking.sink.Given as goal

abbrev pub invariant-rows : goal.invariant-rows
invariant-rows l =
    take l.place l.rows ++ with_row l.moved (drop l.place (take l.used l.rows))
    ≡ with_row l.fn.row (take l.used l.fn.rows)
