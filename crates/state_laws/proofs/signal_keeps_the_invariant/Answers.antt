use Rattle.state_laws.proofs.Ends.{signal_keeps}
use Rattle.state_laws.proofs.signal_keeps_the_invariant.Goals as goal

pub returns : goal.returns
returns c = signal_keeps
