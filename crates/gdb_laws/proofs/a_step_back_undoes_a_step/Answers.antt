use Rattle.gdb_laws.proofs.Backs.{again_law, back_law}
use Rattle.gdb_laws.proofs.a_step_back_undoes_a_step.Goals as goal

pub returns-clause-back : goal.returns-clause-back
returns-clause-back c = back_law c.a_step_takes_a_tick.ensures

pub returns-clause-again : goal.returns-clause-again
returns-clause-again c = again_law c.a_step_takes_a_tick.ensures
