use Rattle.std.proofs.Common.{◌+◌, ◌∙◌, ap, sym, arith}
use Rattle.gdb_past.proofs.Following.{after_more, after_none}
use Rattle.machine.specs.MachineModel.{MachineModel}
use Rattle.reference.specs.State.{State}
use Rattle.reference.specs.Step.{step}
use Rattle.gdb_past.proofs.position.make_steps.Goals as goal

pub steps-init : goal.steps-init
steps-init g c =
    let m : MachineModel = c.args.machine.now in
    ap (λ (s : State). record m { state = s }) (sym (after_none m.state))

pub steps-preserved : goal.steps-preserved
steps-preserved g c =
    let m : MachineModel = c.args.machine.now in
    c.step.ensures.state
    ∙ (ap (λ (k : MachineModel). record k { state = (step k.state).state }) c.steps.invariant
    ∙ ap (λ (s : State). record m { state = s })
    (sym (after_more c.steps.step (c.steps.step + 1) m.state (omega arith))))
