use Rattle.step_laws.proofs.Ticks.{step_takes_tick}
use Rattle.step_laws.proofs.a_step_takes_a_tick.Goals as goal

pub returns : goal.returns
returns c = step_takes_tick
