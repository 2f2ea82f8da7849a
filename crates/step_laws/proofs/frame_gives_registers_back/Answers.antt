use Rattle.step_laws.proofs.Frames.{gives_back}
use Rattle.step_laws.proofs.frame_gives_registers_back.Goals as goal

pub returns : goal.returns
returns c = gives_back
