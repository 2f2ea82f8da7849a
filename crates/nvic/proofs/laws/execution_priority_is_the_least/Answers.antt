use Rattle.nvic.proofs.Least.{least_exactly}
use Rattle.nvic.proofs.laws.execution_priority_is_the_least.Goals as goal

pub returns : goal.returns
returns c = least_exactly
