use Rattle.gdb_past.proofs.Following.{same_board}
use Rattle.gdb_past.proofs.checkpoints.Checkpoint.restore.Goals as goal

pub restore-requires : goal.restore-requires
restore-requires g c =
    same_board c.args.machine.now.state c.self.inside.kept (rw (← c.self.view_is) at c.requires)
