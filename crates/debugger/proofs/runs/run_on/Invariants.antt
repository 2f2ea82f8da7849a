use Rattle.serving.proofs.Delivering.{HasDelivered}
use Rattle.debugger.specs.Answers.{run_on}
use Rattle.debugger.proofs.runs.run_on.Given as goal

-- the pieces so far went out, and those of the steps that are left are still to come
abbrev pub invariant-steps : goal.invariant-steps
invariant-steps g l =
    HasDelivered (run_on l.settings l.fn.steps l.fn.first (g.T.Target.model l.fn.machine).state)
    (run_on l.settings l.left l.hit (g.T.Target.model l.machine).state)
    (g.T.Target.model l.fn.machine) (g.T.Target.model l.machine) (g.W.Out.writing l.fn.out) (g.W.Out.writing l.out)

abbrev pub decreases-steps : goal.decreases-steps
decreases-steps g l = l.left
