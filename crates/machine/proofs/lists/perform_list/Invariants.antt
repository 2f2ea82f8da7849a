use Rattle.std.proofs.Common.{◌≡◌, ◌+◌, ◌-◌, ◌<◌, ◌≤◌, [], length, true, is_some, IfSome}
use Rattle.access.specs.KeptAccesses.{GrantsNow}
use Rattle.exceptions.proofs.Performing.{added_to}
use Rattle.exceptions.specs.LineBounds.{max_lines}
use Rattle.instruction_set.specs.Words.{is_bit}
use Rattle.machine.proofs.WordLists.{words_from}
use Rattle.reference.specs.Accesses.{perform_all}
use Rattle.reference.specs.LoadStoreMultiple.{registers_of, word_requests}
use Rattle.reference.specs.State.{with_bus}
use Rattle.machine.proofs.lists.perform_list.Given as goal

-- the bus alone has changed, the lines and values so far come before those of the registers from the number on, the
-- rule of the span grants accesses now, and by it alone the system hasn't changed
abbrev pub invariant-registers : goal.invariant-registers
invariant-registers g l = record {
  state : l.core ≡ with_bus l.fn.core l.core.bus;
  rest : added_to (g.S.Sink.emitted l.events).events l.values.items
      (perform_all l.fn.core.registers.exception l.fn.core.bus.system.time.ticks l.core.bus
      (words_from l.kind l.at l.words.list l.number l.fn.core.registers))
      ≡ added_to (g.S.Sink.emitted l.fn.events).events []
      (perform_all l.fn.core.registers.exception l.fn.core.bus.system.time.ticks l.fn.core.bus
      (word_requests l.kind l.words.address (registers_of l.words.list) l.fn.core.registers));
  before : g.S.Sink.emitted l.events
      ≡ record (g.S.Sink.emitted l.fn.events) { events = (g.S.Sink.emitted l.events).events };
  room : length (g.S.Sink.emitted l.events).events
      + max_lines (words_from l.kind l.at l.words.list l.number l.fn.core.registers)
      ≤ length (g.S.Sink.emitted l.fn.events).events
      + max_lines (word_requests l.kind l.words.address (registers_of l.words.list) l.fn.core.registers);
  few : length l.values.items ≤ l.number;
  within : l.number ≤ 16;
  listed : l.number < 16 → is_bit l.words.list l.number ≡ true;
  span : IfSome l.span (λ kept. GrantsNow l.core.bus kept l.kind l.privileged);
  system : is_some l.span ≡ true → l.core.bus.system ≡ l.fn.core.bus.system;
}

abbrev pub decreases-registers : goal.decreases-registers
decreases-registers g l = 16 - l.number
