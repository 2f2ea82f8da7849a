use Rattle.survey_run.proofs.OneMore.{more_events, more_written, one_counted}
use Rattle.survey_run.proofs.counting.CountedEventsSink.emit.Goals as goal

pub invariant_of-self : goal.invariant_of-self
invariant_of-self g c = record {
  start_is = c.args.self.now.start_is;
  survey_is =
      one_counted g.K.Begun.start _ g.K.Begun.survey _ _ _ _ _ c.args.self.now.start_is
      c.args.self.now.survey_is c.take.ensures (more_events _ _ _ c.and-history.ensures);
  wrote_is =
      more_written _ _ _ _ _ c.args.self.now.wrote_is c.or_writes-self.ensures
      (more_events _ _ _ c.and-history.ensures);
}
