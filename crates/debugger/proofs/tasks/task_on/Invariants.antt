use Rattle.serving.proofs.Delivering.{HasDelivered}
use Rattle.debugger.specs.Answers.{task_on}
use Rattle.debugger.proofs.tasks.task_on.Given as goal

-- the pieces so far went out, and those of the steps that are left are still to come
abbrev pub invariant-steps : goal.invariant-steps
invariant-steps g l =
    HasDelivered (task_on l.settings l.fn.steps (g.T.Target.model l.fn.machine).state)
    (task_on l.settings l.left (g.T.Target.model l.machine).state)
    (g.T.Target.model l.fn.machine) (g.T.Target.model l.machine) (g.W.Out.writing l.fn.out) (g.W.Out.writing l.out)

abbrev pub decreases-steps : goal.decreases-steps
decreases-steps g l = l.left
