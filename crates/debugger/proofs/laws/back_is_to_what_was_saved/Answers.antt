use Rattle.debugger.proofs.BackLaws.{back_law}
use Rattle.debugger.proofs.laws.back_is_to_what_was_saved.Goals as goal

pub returns : goal.returns
returns c = back_law
