use Rattle.clock.proofs.Quiet.{quiet_before_due}
use Rattle.clock.proofs.laws.ticks_are_quiet_before_what_is_due.Goals as goal

pub returns : goal.returns
returns c t = quiet_before_due t
