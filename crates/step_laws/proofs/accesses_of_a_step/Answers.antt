use Rattle.step_laws.proofs.Bytes.{step_covered}
use Rattle.step_laws.proofs.Faults.{step_refusal}
use Rattle.step_laws.proofs.accesses_of_a_step.Goals as goal

pub returns-clause-one_refusal : goal.returns-clause-one_refusal
returns-clause-one_refusal c = step_refusal

pub returns-clause-only_covered : goal.returns-clause-only_covered
returns-clause-only_covered c = step_covered
