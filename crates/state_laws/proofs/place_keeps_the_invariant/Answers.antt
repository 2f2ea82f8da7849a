use Rattle.state_laws.proofs.Ends.{place_keeps}
use Rattle.state_laws.proofs.place_keeps_the_invariant.Goals as goal

pub returns : goal.returns
returns c = place_keeps
