use Rattle.std.proofs.Common.{ap}
use Rattle.trace.specs.Emission.{Emission}
use Rattle.survey_run.proofs.counting.CountedEvents.take_step.Goals as goal

pub returns-clause-same_survey : goal.returns-clause-same_survey
returns-clause-same_survey g c = ap (λ (e : Emission). e.writer) c.step_with_sink.ensures.events

pub returns-clause-survey : goal.returns-clause-survey
returns-clause-survey g c =
    rw (ap (λ (e : Emission). e.events) c.step_with_sink.ensures.events) at c.step_with_sink.new.events.survey_is

pub returns-clause-wrote : goal.returns-clause-wrote
returns-clause-wrote g c =
    rw (ap (λ (e : Emission). e.events) c.step_with_sink.ensures.events) at c.step_with_sink.new.events.wrote_is
