use Rattle.step_laws.proofs.Regions.{regions_stay}
use Rattle.step_laws.proofs.regions_change_by_writes.Goals as goal

pub returns : goal.returns
returns c = regions_stay
