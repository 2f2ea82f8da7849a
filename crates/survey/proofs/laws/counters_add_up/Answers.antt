use Rattle.survey.proofs.Sums.{outcomes_add_up, sums_count}
use Rattle.survey.proofs.laws.counters_add_up.Goals as goal

pub returns-clause-sums : goal.returns-clause-sums
returns-clause-sums c = sums_count

pub returns-clause-outcomes : goal.returns-clause-outcomes
returns-clause-outcomes c = outcomes_add_up
