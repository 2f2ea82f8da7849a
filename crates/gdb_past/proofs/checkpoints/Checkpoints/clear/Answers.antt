use Rattle.std.proofs.Common.{arith}
use Rattle.gdb_past.proofs.Checkpointing.{cleared_right}
use Rattle.gdb_past.proofs.checkpoints.Checkpoints.clear.Goals as goal

pub returns : goal.returns
returns g c = λ start m n count right.
    cleared_right start m n count c.self.inside.slots.items c.self.inside.generation c.saturating_add-self-inside.result
    (rw (← c.self.view_is) at right) (omega arith) c.saturating_add-self-inside.ensures
