use Rattle.devices.proofs.Foreseen.{foreseen}
use Rattle.devices.proofs.laws.last_poke_decides.Goals as goal

pub returns : goal.returns
returns c ds ticks ps a = foreseen ds ticks ps a
