use Rattle.access.proofs.Refusals.{perform_keeps}
use Rattle.access.proofs.laws.refused_access_changes_nothing.Goals as goal

pub returns : goal.returns
returns c = perform_keeps
