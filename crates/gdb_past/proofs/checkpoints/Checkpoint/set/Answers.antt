use Rattle.gdb_past.proofs.Following.{same_board}
use Rattle.gdb_past.proofs.checkpoints.Checkpoint.set.Goals as goal

pub save_to-requires : goal.save_to-requires
save_to-requires g c =
    same_board c.self.inside.kept c.args.machine.now.state (rw (← c.self.view_is) at c.requires)
