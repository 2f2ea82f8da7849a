use Rattle.gdb_past.proofs.Following.{same_refl}
use Rattle.gdb.proofs.slices.prepare.Goals as goal

pub returns-then-not-is_empty-clause-fits : goal.returns-then-not-is_empty-clause-fits
returns-then-not-is_empty-clause-fits g c = rw c.take.ensures (same_refl c.args.machine.now.state)
