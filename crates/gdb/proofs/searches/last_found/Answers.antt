use Rattle.std.proofs.Common.{◌+◌, ◌∙◌, ap, arith, refl, sym}
use Rattle.gdb.proofs.Searching.{one_more}
use Rattle.gdb.specs.Searches.{last_found}
use Rattle.gdb_past.proofs.Following.{after_more, after_none, after_then, same_after}
use Rattle.machine.specs.MachineModel.{MachineModel}
use Rattle.reference.specs.Run.{after}
use Rattle.reference.specs.State.{State}
use Rattle.reference.specs.Step.{step}
use Rattle.gdb.proofs.searches.last_found.Goals as goal

pub steps-init : goal.steps-init
unfolding last_found
steps-init g c =
    let m : MachineModel = c.args.machine.now in
    record {
      machine = ap (λ (s : State). record m { state = s }) (sym (after_none m.state));
      found = λ s at here. refl;
    }

pub steps-preserved : goal.steps-preserved
steps-preserved g c =
    let m : MachineModel = c.args.machine.now in
    record {
      machine = c.reason_there-reason.ensures.state
          ∙ (ap (λ (k : MachineModel). record k { state = (step k.state).state }) c.steps.invariant.machine
          ∙ ap (λ (s : State). record m { state = s })
          (sym (after_more c.steps.step (c.steps.step + 1) m.state (omega arith))));
      found = λ s at here. c.found_if-found.ensures
          ∙ one_more c.args.scope c.args.points.now c.args.settings.now s c.steps.machine.state c.args.steps
          c.steps.step (c.args.tick + (c.args.steps + c.steps.step + 1)) (c.args.steps + c.steps.step + 1)
          c.reason_there-reason.result c.steps.found (omega (arith, at)) (omega arith)
          (ap (λ (k : MachineModel). k.state) c.steps.invariant.machine
          ∙ (ap (λ (u : State). after c.steps.step u) here ∙ after_then c.args.steps c.steps.step s))
          c.reason_there-reason.ensures.reason (c.steps.invariant.found s at here);
    }

pub returns-clause-same : goal.returns-clause-same
returns-clause-same g c = rw c.steps.invariant.machine (same_after c.steps.step c.args.machine.now.state)

pub returns-clause-kept : goal.returns-clause-kept
returns-clause-kept g c = ap (λ (k : MachineModel). k.broken) c.steps.invariant.machine
