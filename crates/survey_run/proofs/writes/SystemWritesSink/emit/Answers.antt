use Rattle.survey_run.proofs.Written.{more_events, more_written}
use Rattle.survey_run.proofs.writes.SystemWritesSink.emit.Goals as goal

pub invariant_of-self : goal.invariant_of-self
invariant_of-self c = record {
  some_is =
      more_written _ _ _ _ _ c.args.self.now.some_is c.or_writes-self.ensures
      (more_events _ _ _ c.and-history.ensures);
}
