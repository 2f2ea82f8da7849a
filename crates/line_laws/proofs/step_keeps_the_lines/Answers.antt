use Rattle.line_laws.proofs.Steps.{step_settled}
use Rattle.line_laws.proofs.step_keeps_the_lines.Goals as goal

pub returns : goal.returns
returns c = step_settled
