use Rattle.std.proofs.Common.{arith, ◌∙◌}
use Rattle.symbol_steps.proofs.Ranked.{sink_fewer, sink_more}
use Rattle.symbol_steps.proofs.ranking.sink.Goals as goal
use Rattle.symbol_steps.proofs.ranking.sink.Goals.{then-sum, else-sum}

pub rows-preserved : goal.rows-preserved
rows-preserved c =
    elim c.if-sum.branch [
      | then-sum w ↦
          sink_fewer c.rows.rows c.if-sum.rows c.args.used c.rows.place c.sum.result c.sum-in-rows.result c.rows.moved
          c.if-sum.moved _ c.rows-test.true (omega arith) w.rows-is w.moved-is c.sum.ensures c.sum-in-rows.ensures
          w.if-sum.true ∙ c.rows.invariant
      | else-sum w ↦
          sink_more c.rows.rows c.if-sum.rows c.args.used c.rows.place c.sum.result c.sum-in-rows.result c.rows.moved
          c.if-sum.moved _ c.rows-test.true (omega arith) w.rows-is w.moved-is c.sum.ensures c.sum-in-rows.ensures
          w.if-sum.false ∙ c.rows.invariant
    ]
