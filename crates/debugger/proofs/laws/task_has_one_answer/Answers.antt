use Rattle.debugger.proofs.TaskAnswers.{task_answers_law}
use Rattle.debugger.proofs.laws.task_has_one_answer.Goals as goal

pub returns : goal.returns
returns c = task_answers_law
