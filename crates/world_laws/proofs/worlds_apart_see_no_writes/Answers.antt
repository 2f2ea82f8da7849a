use Rattle.world_laws.proofs.Unseen.{unseen_law}
use Rattle.world_laws.proofs.worlds_apart_see_no_writes.Goals as goal

pub returns : goal.returns
returns c = unseen_law
