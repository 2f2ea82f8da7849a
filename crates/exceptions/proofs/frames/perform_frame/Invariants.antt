use Rattle.std.proofs.Common.{◌≡◌, ◌+◌, ◌≤◌, [], drop, length, IfSome}
use Rattle.access.specs.KeptAccesses.{GrantsNow}
use Rattle.exceptions.proofs.Performing.{added_to}
use Rattle.reference.specs.Accesses.{perform_all}
use Rattle.reference.specs.ExceptionEntry.{words_from}
use Rattle.reference.specs.State.{with_bus}
use Rattle.exceptions.proofs.frames.perform_frame.Given as goal

-- the bus alone has changed, the lines and values so far come before those of the words from the index on, and the rule
-- of the span grants accesses now
abbrev pub invariant-words : goal.invariant-words
invariant-words g l = record {
  state : l.core ≡ with_bus l.fn.core l.core.bus;
  rest : added_to (g.S.Sink.emitted l.events).events l.values.items
      (perform_all l.fn.core.registers.exception l.fn.core.bus.system.time.ticks l.core.bus
      (words_from l.frame.kind l.frame.privileged l.at (drop l.value-index l.words)))
      ≡ added_to (g.S.Sink.emitted l.fn.events).events []
      (perform_all l.fn.core.registers.exception l.fn.core.bus.system.time.ticks l.fn.core.bus
      (words_from l.frame.kind l.frame.privileged l.frame.address l.words));
  before : g.S.Sink.emitted l.events
      ≡ record (g.S.Sink.emitted l.fn.events) { events = (g.S.Sink.emitted l.events).events };
  room : length (g.S.Sink.emitted l.events).events ≤ length (g.S.Sink.emitted l.fn.events).events + l.value-index;
  few : length l.values.items ≡ l.value-index;
  span : IfSome l.span (λ kept. GrantsNow l.core.bus kept l.frame.kind l.frame.privileged);
}
