use Rattle.std.proofs.Common.{◌≡◌, drop}
use Rattle.trace.specs.Selection.{has_refusal_or_fault}
use Rattle.trace.proofs.selection.has_refusal_or_fault.Given as goal

-- there is a refusal just where one of the events that are left is one
abbrev pub invariant-events : goal.invariant-events
invariant-events l = has_refusal_or_fault (drop l.event-index l.events) ≡ has_refusal_or_fault l.events
