use Rattle.std.proofs.Common.{◌≡◌, ◌∙◌}
use Rattle.serving.proofs.Delivering.{one_cut}
use Rattle.debugger.specs.Answers.{step_piece}
use Rattle.reference.specs.Step.{step}
use Rattle.debugger.proofs.runs.write_chosen_step.Goals as goal

pub returns-in-Err-clause-delivers : goal.returns-in-Err-clause-delivers
returns-in-Err-clause-delivers g c =
    let s = (g.T.Target.model c.args.machine.now).state in
    let same : c.as_slice-events.result.now ≡ (step s).events = c.as_slice-events.ensures.value
    ∙ c.step.ensures.events in
    one_cut (step_piece c.args.settings.now s) _ _ _ _ (rw (← same) c.in-Err.ensures.0) c.step.ensures.state
    c.in-Err.ensures.1
