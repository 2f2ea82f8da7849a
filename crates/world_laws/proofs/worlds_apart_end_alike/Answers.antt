use Rattle.world_laws.proofs.Unseen.{unseen_law}
use Rattle.world_laws.proofs.worlds_apart_end_alike.Goals as goal

pub returns : goal.returns
returns c n board v w s t a b x y inv in_world wrote task here there =
    c.runs_of_tasks_end_in_one_way.ensures.two_states n s t a b x y inv task
    (unseen_law board v w s t in_world wrote) here there
