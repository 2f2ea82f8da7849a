use Rattle.std.proofs.Common.{◌≡◌, ◌==◌, ◌∙◌, ap, false, length, refl, subst, sym, true}
use Rattle.gdb.proofs.Unwatched.{none_watched}
use Rattle.gdb_past.proofs.Following.{same_refl, same_step, same_sym, same_trans}
use Rattle.gdb_past.proofs.Ways.{on_by, on_at}
use Rattle.gdb_past.specs.Places.{AreOfOneMachine}
use Rattle.machine.specs.MachineModel.{MachineModel}
use Rattle.reference.specs.State.{State}
use Rattle.reference.specs.Step.{step}
use Rattle.gdb.proofs.slices.step_unless_hit.Goals as goal

-- the state after the step is one of the same machine
stepped : (s : State) (old new : MachineModel) → old.state ≡ s → new ≡ record old { state = (step old.state).state }
    → AreOfOneMachine s new.state
stepped s old new same stands =
    subst (λ (m : MachineModel). AreOfOneMachine s m.state) (sym stands)
    (subst (λ (u : State). AreOfOneMachine s (step u).state) (sym same) (same_step s))

pub returns-then-is_empty-clause-hit : goal.returns-then-is_empty-clause-hit
returns-then-is_empty-clause-hit g c =
    let none : (length c.args.points.now.watchpoints == 0) ≡ true =
    sym c.is_empty.ensures ∙ c.if-is_empty.true in
    sym (none_watched c.args.points.now.watchpoints (step c.args.machine.now.state).events none)

pub returns-then-is_empty-clause-fits : goal.returns-then-is_empty-clause-fits
returns-then-is_empty-clause-fits g c =
    same_trans c.args.position.now c.args.machine.now.state c.step.new.self.state c.requires.fits
    (stepped c.args.machine.now.state c.args.machine.now c.step.new.self refl c.step.ensures.state)

pub returns-then-is_empty-clause-same : goal.returns-then-is_empty-clause-same
returns-then-is_empty-clause-same g c =
    stepped c.args.machine.now.state c.args.machine.now c.step.new.self refl c.step.ensures.state

pub restore-requires : goal.restore-requires
restore-requires g c =
    same_sym c.args.position.now c.step.new.self.state
    (same_trans c.args.position.now c.args.machine.now.state c.step.new.self.state c.requires.fits
    (stepped c.args.machine.now.state c.args.machine.now c.step.new.self refl c.step.ensures.state))

pub returns-in-None-clause-same : goal.returns-in-None-clause-same
returns-in-None-clause-same g c =
    stepped c.args.machine.now.state c.args.machine.now c.step.new.self refl c.step.ensures.state

pub returns-in-None-clause-fits : goal.returns-in-None-clause-fits
returns-in-None-clause-fits g c = rw c.follow.ensures (same_refl c.step.new.self.state)

-- it stays after the last mark
pub returns-then-is_empty-clause-ahead : goal.returns-then-is_empty-clause-ahead
returns-then-is_empty-clause-ahead g c = on_by c.args.machine.now c.step.new.self c.step.ensures.state

pub returns-in-Some-clause-ahead : goal.returns-in-Some-clause-ahead
returns-in-Some-clause-ahead g c =
    let some : (length c.args.points.now.watchpoints == 0) ≡ false =
    sym c.is_empty.ensures ∙ c.if-is_empty.false in
    on_at c.args.machine.now.state c.restore.new.machine.state
    (ap (λ (m : MachineModel). m.state) c.restore.ensures ∙ c.requires.ready some)

pub returns-in-None-clause-ahead : goal.returns-in-None-clause-ahead
returns-in-None-clause-ahead g c = on_by c.args.machine.now c.step.new.self c.step.ensures.state
