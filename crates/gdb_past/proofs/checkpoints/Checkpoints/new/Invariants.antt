use Rattle.std.proofs.Common.{◌≡◌, replicate}
use Rattle.gdb_past.proofs.Checkpointing.{first_checkpoint}
use Rattle.gdb_past.proofs.checkpoints.Checkpoints.new.Given as goal

-- so many were made
abbrev pub invariant-slots : goal.invariant-slots
invariant-slots g l = l.slots.items ≡ replicate l.number (first_checkpoint l.machine.state)
