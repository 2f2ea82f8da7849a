use Rattle.mpu_table.proofs.lazy_table.LazyTableDecider.decide_and_keep.Goals as goal

pub returns-clause-value : goal.returns-clause-value
returns-clause-value c = λ m decides. c.decide.ensures m (c.make_table_for.ensures m decides)
