use Rattle.std.proofs.Common.{◌≡◌, Some, refl, sym, ap, ◌∙◌}
use Rattle.reference.specs.State.{State}
use Rattle.target.specs.MachineModel.{MachineModel}
use Rattle.machine.proofs.Tasking.{not_both, stopped_before}
use Rattle.machine.proofs.machine.Machine.run_task.Goals as goal

pub returns-in-Some-clause-end : goal.returns-in-Some-clause-end
returns-in-Some-clause-end g c =
    let e : c.args.self.now.state.stop ≡ Some c.in-Some.stop =
    sym (ap (λ (w : MachineModel). w.state.stop) c.self.view_is) ∙ ap (λ (s : State). s.stop) (sym c.deref.ensures)
    ∙ sym c.stop.ensures ∙ c.in-Some.is in
    (λ none. absurd (not_both _ _ e none), stopped_before c.args.limit _ _ c.in-Some.stop e, refl)
