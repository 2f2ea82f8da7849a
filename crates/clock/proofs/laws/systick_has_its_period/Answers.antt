use Rattle.clock.proofs.Periods.{has_the_period}
use Rattle.clock.proofs.laws.systick_has_its_period.Goals as goal

pub returns : goal.returns
returns c t = has_the_period t
