use Rattle.debugger.proofs.TaskRuns.{task_law}
use Rattle.debugger.proofs.laws.task_answers_say_how_it_ran.Goals as goal

pub returns : goal.returns
returns c = task_law
