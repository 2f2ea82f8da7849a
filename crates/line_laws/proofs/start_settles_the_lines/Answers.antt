use Rattle.line_laws.proofs.Outside.{start_settled}
use Rattle.line_laws.proofs.start_settles_the_lines.Goals as goal

pub returns : goal.returns
returns c = start_settled
