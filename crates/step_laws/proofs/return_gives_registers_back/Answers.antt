use Rattle.step_laws.proofs.Returns.{return_gives_back}
use Rattle.step_laws.proofs.return_gives_registers_back.Goals as goal

pub returns : goal.returns
returns c = return_gives_back
