use Rattle.std.proofs.Common.{◌*◌, ◌≤◌, arith, subst, ℕ}
use Rattle.gdb_past.proofs.Copies.{copies_fit}
use Rattle.gdb_past.specs.Copies.{max_copied}
use Rattle.gdb_past.proofs.room.room_of.Goals as goal

pub returns-clause-fits : goal.returns-clause-fits
returns-clause-fits c =
    subst (λ (b : ℕ). 3 * c.min.result * b ≤ max_copied) c.memory_size.ensures.size
    (copies_fit max_copied c.min.result c.memory_size.result (omega (arith, c.min.ensures)))
