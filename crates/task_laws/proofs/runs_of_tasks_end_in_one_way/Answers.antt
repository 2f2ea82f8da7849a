use Rattle.task_laws.proofs.Endings.{one_way_law, two_runs_law}
use Rattle.task_laws.proofs.runs_of_tasks_end_in_one_way.Goals as goal

pub returns-clause-one_way : goal.returns-clause-one_way
returns-clause-one_way c = one_way_law

pub returns-clause-two_states : goal.returns-clause-two_states
returns-clause-two_states c = two_runs_law
