use Rattle.std.proofs.Common.{◌≡◌, ◌∙◌, refl}
use Rattle.serving.proofs.Delivering.{one_cut}
use Rattle.debugger.specs.Answers.{task_text}
use Rattle.debugger.proofs.tasks.put_task_end.Goals as goal

pub returns-in-Err : goal.returns-in-Err
returns-in-Err g c =
    let same : c.as_slice.result.now ≡ task_text c.args.end = c.as_slice.ensures ∙ c.task_text-page.ensures in
    one_cut _ _ _ _ _ (rw (← same) c.in-Err.ensures.0) refl c.in-Err.ensures.1
