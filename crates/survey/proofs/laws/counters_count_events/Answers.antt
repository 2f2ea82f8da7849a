use Rattle.survey.proofs.Counting.{counts_events}
use Rattle.survey.proofs.Places.{places_apart}
use Rattle.survey.proofs.laws.counters_count_events.Goals as goal

pub returns-clause-events : goal.returns-clause-events
returns-clause-events c = counts_events

pub returns-clause-apart : goal.returns-clause-apart
returns-clause-apart c = places_apart
