use Rattle.std.proofs.Common.{◌≡◌, ◌∙◌, sym, true}
use Rattle.debugger_commands.proofs.Plain.{plain_goes_on}
use Rattle.debugger_commands.specs.Conditions.{is_plain}
use Rattle.reference.specs.Step.{step}
use Rattle.debugger.proofs.runs.write_step.Goals as goal

pub returns-in-Ok-clause-hit : goal.returns-in-Ok-clause-hit
returns-in-Ok-clause-hit g c =
    let plain : is_plain c.args.settings.now ≡ true = sym c.is_plain.ensures ∙ c.if-is_plain.true in
    sym (plain_goes_on c.args.settings.now plain (step (g.T.Target.model c.args.machine.now).state).events)
