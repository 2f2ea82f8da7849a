use Rattle.state_laws.proofs.Ends.{access_keeps, instruction_keeps, tick_keeps}
use Rattle.state_laws.proofs.phases_keep_the_invariant.Goals as goal

pub returns-clause-access : goal.returns-clause-access
returns-clause-access c = access_keeps

pub returns-clause-instruction : goal.returns-clause-instruction
returns-clause-instruction c = instruction_keeps

pub returns-clause-tick : goal.returns-clause-tick
returns-clause-tick c = tick_keeps
