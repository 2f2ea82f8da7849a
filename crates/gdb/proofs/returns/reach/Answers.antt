use Rattle.std.proofs.Common.{◌∙◌, arith, slice_index_or}
use Rattle.gdb.proofs.Returning.{reached_from, same_stepped, stayed_at}
use Rattle.gdb.proofs.returns.reach.Goals as goal
use Rattle.gdb.proofs.returns.reach.Goals.{then-found-gt0, else-found-gt0}

pub returns-clause-state : goal.returns-clause-state
returns-clause-state g c = λ s.
    elim c.if-found-gt0.branch [
      | then-found-gt0 w ↦ w.machine-is ∙ reached_from c.args.machine.now c.go_near.new.machine w.repeat.new.machine
          c.args.found.steps c.go_near.result (slice_index_or c.args.past.now.marks 0 s) w.if-found-gt0.true
          (omega (arith, c.go_near.ensures.least, c.go_near.ensures.most)) (c.go_near.ensures.state s)
          w.repeat.ensures.state
      | else-found-gt0 w ↦ w.machine-is ∙ stayed_at c.args.machine.now c.go_near.new.machine c.args.found.steps
          c.go_near.result (slice_index_or c.args.past.now.marks 0 s) (omega (arith, w.if-found-gt0.false))
          (omega (arith, c.go_near.ensures.most)) (c.go_near.ensures.state s)
    ]

pub returns-clause-same : goal.returns-clause-same
returns-clause-same g c =
    elim c.if-found-gt0.branch [
      | then-found-gt0 w ↦ rw w.machine-is
          (same_stepped c.args.past.now.start c.go_near.new.machine w.repeat.new.machine w.repeat.ensures.state
          c.go_near.ensures.same)
      | else-found-gt0 w ↦ rw w.machine-is c.go_near.ensures.same
    ]
