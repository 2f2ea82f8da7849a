use Rattle.gdb_past.proofs.Following.{same_refl}
use Rattle.gdb.proofs.turns.run_turn.Goals as goal

pub returns-then-run-clause-same : goal.returns-then-run-clause-same
returns-then-run-clause-same g c = same_refl c.args.machine.now.state
