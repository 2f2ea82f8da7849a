use Rattle.world_laws.proofs.Unseen.{blank_has_rams}
use Rattle.world_laws.proofs.boards_have_their_rams.Goals as goal

pub returns : goal.returns
returns c = blank_has_rams
