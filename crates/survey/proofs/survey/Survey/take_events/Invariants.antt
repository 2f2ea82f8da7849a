use Rattle.std.proofs.Common.{◌≡◌, drop}
use Rattle.survey.specs.Surveys.{with_events}
use Rattle.survey.proofs.survey.Survey.take_events.Given as goal

abbrev pub invariant-loop-event : goal.invariant-loop-event
invariant-loop-event l =
    with_events l.start l.self (drop l.event-index l.events) ≡ with_events l.fn.start l.fn.self l.fn.events
