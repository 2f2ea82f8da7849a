use Rattle.std.proofs.Common.{◌∙◌}
use Rattle.command.proofs.Texts.{counted_from_none, tasks_run}
use Rattle.command.proofs.tasks_command.run_tasks.Goals as goal

pub returns : goal.returns
returns g c =
    tasks_run _ c.args.file.now _ _ c.args.opened.machine.state _ _ _ _ _ _ _ _ c.in-Ok-read.ensures.strings
    c.in-Ok-read.ensures.list c.as_slice-allowed.ensures.value
    (counted_from_none _ _ _ _ _ c.worlds-2.ensures c.world_run-stop.ensures.worlds
    (c.new-count.ensures ∙ c.in-Ok.ensures))
    c.world_run-stop.ensures.stop c.write_tasks.ensures
