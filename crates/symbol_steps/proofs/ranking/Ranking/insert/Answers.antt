use Rattle.std.proofs.Common.{◌≡◌, length, arith, ◌∙◌, rules}
use Rattle.symbol_steps.proofs.Ranked.{insert_full}
use Rattle.symbol_steps.proofs.ranking.Ranking.insert.Goals as goal

pub returns-else-self-lt-MAX_ROWS : goal.returns-else-self-lt-MAX_ROWS
returns-else-self-lt-MAX_ROWS c =
    let long : length c.self.inside.rows ≡ 20 = search rules in
    insert_full c.self.inside.used c.args.self.now c.self.inside.rows c.sink-last.new.rows c.args.row c.sink-last.result
    (omega arith) (c.sink-last.auto.rows ∙ long) c.self.view_is c.sink-last.ensures
