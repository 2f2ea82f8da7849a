use Rattle.world_laws.proofs.Unseen.{unseen_law}
use Rattle.world_laws.proofs.worlds_apart_run_alike.Goals as goal

pub returns : goal.returns
returns c board v w s t n run wrote =
    c.tasks_are_kept_apart.ensures.unprivileged s t n run.invariant run.unprivileged
    (unseen_law board v w s t run.here wrote) run.instructions
