use Rattle.state_laws.proofs.Ends.{step_keeps}
use Rattle.state_laws.proofs.step_keeps_the_invariant.Goals as goal

pub returns : goal.returns
returns c = step_keeps
