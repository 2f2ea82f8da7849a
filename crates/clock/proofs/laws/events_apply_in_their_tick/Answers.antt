use Rattle.clock.proofs.Scripts.{applies_those}
use Rattle.clock.proofs.laws.events_apply_in_their_tick.Goals as goal

pub returns : goal.returns
returns c tick script = applies_those tick script
