use Rattle.std.proofs.Common.{◌≡◌, drop}
use Rattle.gdb.specs.Reasons.{first_cause}
use Rattle.gdb.proofs.steps.first_cause.Given as goal

-- what refused the first access is among the events that are left
abbrev pub invariant-events : goal.invariant-events
invariant-events l = first_cause (drop l.event-index l.events) ≡ first_cause l.events
