use Rattle.machine.proofs.TaskAnswers.{task_runs_law}
use Rattle.machine.proofs.laws.run_task_has_one_answer.Goals as goal

pub returns : goal.returns
returns c = task_runs_law
