use Rattle.debugger.proofs.RunLaws.{plain_run_law}
use Rattle.debugger.proofs.laws.plain_runs_have_all_lines.Goals as goal

pub returns : goal.returns
returns c = plain_run_law
