use Rattle.serving.proofs.Delivering.{put_delivers}
use Rattle.debugger.specs.Answers.{step_piece}
use Rattle.debugger_commands.proofs.Plain.{plain_lines}
use Rattle.reference.specs.Step.{step}
use Rattle.debugger.proofs.runs.write_whole_step.Goals as goal

pub returns : goal.returns
returns g c =
    let s = (g.T.Target.model c.args.machine.now).state in
    put_delivers (step_piece c.args.settings.now s) _ _ _ _ _
    (rw (plain_lines c.args.settings.now c.requires (step s).events) c.write_step.ensures.put)
    c.write_step.ensures.state
