use Rattle.mpu.proofs.Cases.{decision_exactly}
use Rattle.mpu.proofs.laws.decision_is_by_the_first_case.Goals as goal

pub returns : goal.returns
returns c = decision_exactly
