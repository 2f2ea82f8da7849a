use Rattle.debugger.proofs.RunLaws.{show_law}
use Rattle.debugger.proofs.laws.showing_changes_nothing.Goals as goal

pub returns : goal.returns
returns c = show_law
