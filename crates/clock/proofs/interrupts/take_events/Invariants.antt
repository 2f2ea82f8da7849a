use Rattle.std.proofs.Common.{◌≡◌, drop}
use Rattle.platform.specs.Time.{with_events}
use Rattle.clock.proofs.interrupts.take_events.Given as goal

abbrev pub invariant-loop-event : goal.invariant-loop-event
invariant-loop-event l = with_events l.high (drop l.event-index l.events) ≡ with_events l.fn.high l.events
