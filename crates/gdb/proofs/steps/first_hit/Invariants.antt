use Rattle.std.proofs.Common.{◌≡◌, drop}
use Rattle.gdb.specs.Reasons.{first_hit}
use Rattle.gdb.proofs.steps.first_hit.Given as goal

-- what the first access hits is what the first of the events that are left does
abbrev pub invariant-events : goal.invariant-events
invariant-events l = first_hit l.watchpoints (drop l.event-index l.events) ≡ first_hit l.watchpoints l.events
