-- Why a run of a task ended.
use Rattle.std.specs.Prelude.{Bool, if◌then◌else◌, Option, Some, None}
use Rattle.platform.specs.declared.stop.Stop.{Stop}
use Rattle.task_laws.specs.declared.task.TaskEnd.{TaskEnd}
use Rattle.task_laws.specs.declared.task.TaskEnd.TheVariants as task_end

-- why a run ended, by the stop of the machine and by whether steps of the limit are left
abbrev pub end_of : Option Stop → Bool → TaskEnd
end_of (Some why) left = task_end.Stopped why
end_of None left = if left then task_end.Other else task_end.Done
