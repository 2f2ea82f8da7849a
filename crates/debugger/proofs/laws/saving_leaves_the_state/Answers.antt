use Rattle.debugger.proofs.BackLaws.{save_law}
use Rattle.debugger.proofs.laws.saving_leaves_the_state.Goals as goal

pub returns : goal.returns
returns c = save_law
