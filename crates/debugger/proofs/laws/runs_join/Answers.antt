use Rattle.debugger.proofs.RunLaws.{parts_law}
use Rattle.debugger.proofs.laws.runs_join.Goals as goal

pub returns : goal.returns
returns c = parts_law
