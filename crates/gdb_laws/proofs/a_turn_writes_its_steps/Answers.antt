use Rattle.gdb_laws.proofs.Made.{turn_law}
use Rattle.gdb_laws.proofs.a_turn_writes_its_steps.Goals as goal

pub returns : goal.returns
returns c = turn_law
