use Rattle.state_laws.proofs.Ends.{alter_keeps}
use Rattle.state_laws.proofs.alter_keeps_the_invariant.Goals as goal

pub returns : goal.returns
returns c = alter_keeps
