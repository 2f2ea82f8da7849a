use Rattle.nvic.proofs.Due.{adds_due}
use Rattle.nvic.proofs.laws.what_is_due_is_added.Goals as goal

pub returns : goal.returns
returns c = adds_due
