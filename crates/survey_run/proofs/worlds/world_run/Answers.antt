use Rattle.std.proofs.Common.{◌≡◌, ◌⊎◌, inl, inr, ◌∙◌, sym, ap, arith, IsSome}
use Rattle.machine.proofs.Running.{ends_so}
use Rattle.machine.specs.MachineModel.{MachineModel}
use Rattle.survey_run.specs.CountModel.{CountModel}
use Rattle.survey_run.proofs.WorldsCounted.{all_counted, counted_on, machine_on, none_counted, none_made, whole_made}
use Rattle.survey_run.proofs.worlds.world_run.Goals as goal
use Rattle.survey_run.proofs.worlds.world_run.Goals.{else-steps-test, then-steps-test+then-is_some}

pub steps-init : goal.steps-init
steps-init g c = record {
  few = omega arith;
  machine = none_made c.args.machine.now;
  counted =
      ap (λ (k : CountModel). k.worlds) c.begin.ensures
      ∙ sym (none_counted c.args.machine.now.state c.args.count.now.worlds);
  mpu = ap (λ (k : CountModel). k.mpu) c.begin.ensures;
}

pub steps-preserved : goal.steps-preserved
steps-preserved g c =
    let now = ap (λ (m : MachineModel). m.state) c.steps.invariant.machine in
    record {
      few = omega arith;
      machine = machine_on _ _ _ _ c.steps.invariant.machine c.world_step.ensures.state;
      counted = c.world_step.ensures.worlds ∙ counted_on _ _ _ _ _ now c.steps.invariant.counted;
      mpu = c.world_step.ensures.mpu;
    }

pub returns-clause-state : goal.returns-clause-state
returns-clause-state g c =
    let ends : (c.steps.made ≡ c.args.limit) ⊎ IsSome c.steps.machine.state.stop =
    elim c.steps-test.branch [ else-steps-test w ↦ inl (omega arith) | then-steps-test+then-is_some w ↦ inr cc ] in
    whole_made _ _ _ _ c.steps.invariant.few c.steps.invariant.machine ends

pub returns-clause-worlds : goal.returns-clause-worlds
returns-clause-worlds g c =
    let ends : (c.steps.made ≡ c.args.limit) ⊎ IsSome c.steps.machine.state.stop =
    elim c.steps-test.branch [ else-steps-test w ↦ inl (omega arith) | then-steps-test+then-is_some w ↦ inr cc ] in
    let now = ap (λ (m : MachineModel). m.state) c.steps.invariant.machine in
    all_counted _ _ _ _ _ _ c.steps.invariant.few now c.steps.invariant.counted ends

pub returns-clause-stop : goal.returns-clause-stop
returns-clause-stop g c =
    let ends : (c.steps.made ≡ c.args.limit) ⊎ IsSome c.steps.machine.state.stop =
    elim c.steps-test.branch [ else-steps-test w ↦ inl (omega arith) | then-steps-test+then-is_some w ↦ inr cc ] in
    let whole = whole_made _ _ _ _ c.steps.invariant.few c.steps.invariant.machine ends in
    ends_so _ _ _ _ (cc) (ap (λ (m : MachineModel). m.state) whole)
