use Rattle.std.proofs.Common.{◌≡◌}
use Rattle.reference.specs.Run.{after}
use Rattle.gdb_past.proofs.position.make_steps.Given as goal

-- so many steps were made
abbrev pub invariant-steps : goal.invariant-steps
invariant-steps g l = l.machine ≡ record l.fn.machine { state = after l.step l.fn.machine.state }
