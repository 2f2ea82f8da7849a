use Rattle.state_laws.proofs.Ends.{start_gives}
use Rattle.state_laws.proofs.start_gives_the_invariant.Goals as goal

pub returns : goal.returns
returns c = start_gives
