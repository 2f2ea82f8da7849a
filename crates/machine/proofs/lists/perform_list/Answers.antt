use Rattle.std.proofs.Common.{◌≡◌, ◌∙◌, ap, arith, refl, sym}
use Rattle.exceptions.proofs.Performing.{bus_changed, emitted_all, emitted_on, lines_emitted, own_bus}
use Rattle.exceptions.proofs.Performing.{still_before, value_read}
use Rattle.exec.proofs.Listed.{first_asked}
use Rattle.machine.proofs.WordLists.{grants_then, one_word, request_is, room_here, room_on, word_failed, words_done}
use Rattle.reference.specs.State.{Bus, State, with_bus}
use Rattle.machine.proofs.lists.perform_list.Goals as goal

pub registers-init : goal.registers-init
registers-init g c =
    let first = c.next_listed-number.ensures in
    let asked =
    first_asked c.args.kind c.args.words.now.address c.args.words.now.list c.next_listed-number.result
    c.args.core.now.registers first in
    record {
      state = refl;
      rest = rw (c.clear.ensures, asked) refl;
      before = refl;
      room = rw asked (omega arith);
      few = rw c.clear.ensures (omega arith);
      within = first.within;
      listed = first.listed;
      span = grants_then _ _ c.kept_span-span.result _ _ (ap (λ (s : State). s.bus) c.core.view_is)
          c.kept_span-span.ensures;
      system = λ there. refl;
    }

pub access_within-requires-clause-room : goal.access_within-requires-clause-room
access_within-requires-clause-room g c =
    let has = c.registers.invariant.listed c.registers-test.true in
    let q = request_is c.args.kind c.registers.at c.registers.number _ c.registers.core c.args.core.now _
    c.request_of_word-request.ensures
    (ap (λ (s : State). s.registers) c.core-in-registers.view_is) c.registers.invariant.state in
    let here = room_here c.args.kind c.registers.at c.args.words.now.list c.registers.number c.args.core.now.registers
    c.registers-test.true has in
    rw q (omega (arith, here, c.registers.invariant.room, c.requires.room))

pub access_within-requires-clause-granted : goal.access_within-requires-clause-granted
access_within-requires-clause-granted g c =
    let q = request_is c.args.kind c.registers.at c.registers.number _ c.registers.core c.args.core.now _
    c.request_of_word-request.ensures
    (ap (λ (s : State). s.registers) c.core-in-registers.view_is) c.registers.invariant.state in
    rw (q, ← c.requires.privileged) c.registers.invariant.span

pub registers-preserved : goal.registers-preserved
registers-preserved g c =
    let next = c.next_listed-number-in-registers.ensures in
    let has = c.registers.invariant.listed c.registers-test.true in
    let q = request_is c.args.kind c.registers.at c.registers.number _ c.registers.core c.args.core.now _
    c.request_of_word-request.ensures
    (ap (λ (s : State). s.registers) c.core-in-registers.view_is) c.registers.invariant.state in
    let made = bus_changed c.args.core.now c.registers.core _ _ c.registers.invariant.state
    (rw q at c.access_within.ensures.state) in
    let lines = lines_emitted c.args.core.now c.registers.core _ _ _ _ c.registers.invariant.state c.requires.tick
    (rw q at c.access_within.ensures.events) in
    let read = value_read c.args.core.now c.registers.core _ _ c.registers.invariant.state
    (rw q at c.in-Ok.ensures.answer) in
    record {
      state = own_bus c.args.core.now _ _ made;
      rest = rw (lines, c.push.ensures.items, made)
          (sym (one_word _ _ c.registers.core.bus c.args.kind c.registers.at c.args.words.now.list c.registers.number
          c.next_listed-number-in-registers.result c.args.core.now.registers _
          (g.S.Sink.emitted c.registers.events).events _ c.registers-test.true has next read)
          ∙ c.registers.invariant.rest);
      before = still_before (g.S.Sink.emitted c.args.events.now) _ _ _ c.access_within.ensures.events
          c.registers.invariant.before;
      room = room_on c.args.kind c.registers.at c.args.words.now.list c.registers.number
          c.next_listed-number-in-registers.result c.args.core.now.registers _ _ _ _ c.registers-test.true has next
          (rw q at c.access_within.ensures.room) c.registers.invariant.room;
      few = omega (arith, c.push.ensures.len, c.registers.invariant.few, next.above);
      within = next.within;
      listed = next.listed;
      span = rw c.requires.privileged (rw q at c.access_within.ensures.granted);
      system = λ there. c.access_within.ensures.system there
          ∙ c.registers.invariant.system (c.access_within.ensures.kept there);
    }

pub returns-in-Err-clause-state : goal.returns-in-Err-clause-state
returns-in-Err-clause-state g c =
    let q = request_is c.args.kind c.registers.at c.registers.number _ c.registers.core c.args.core.now _
    c.request_of_word-request.ensures
    (ap (λ (s : State). s.registers) c.core-in-registers.view_is) c.registers.invariant.state in
    let early = word_failed _ _ c.registers.core.bus c.args.kind c.registers.at c.args.words.now.list c.registers.number
    c.args.core.now.registers _ (g.S.Sink.emitted c.registers.events).events _ _ c.registers-test.true
    (c.registers.invariant.listed c.registers-test.true)
    (value_read c.args.core.now c.registers.core _ _ c.registers.invariant.state (rw q at c.in-Err.ensures.answer))
    c.registers.invariant.rest in
    bus_changed c.args.core.now c.registers.core _ _ c.registers.invariant.state
    (rw q at c.access_within.ensures.state)
    ∙ ap (λ (b : Bus). with_bus c.args.core.now b) early.0

pub returns-in-Err-clause-events : goal.returns-in-Err-clause-events
returns-in-Err-clause-events g c =
    let q = request_is c.args.kind c.registers.at c.registers.number _ c.registers.core c.args.core.now _
    c.request_of_word-request.ensures
    (ap (λ (s : State). s.registers) c.core-in-registers.view_is) c.registers.invariant.state in
    let early = word_failed _ _ c.registers.core.bus c.args.kind c.registers.at c.args.words.now.list c.registers.number
    c.args.core.now.registers _ (g.S.Sink.emitted c.registers.events).events _ _ c.registers-test.true
    (c.registers.invariant.listed c.registers-test.true)
    (value_read c.args.core.now c.registers.core _ _ c.registers.invariant.state (rw q at c.in-Err.ensures.answer))
    c.registers.invariant.rest in
    emitted_on (g.S.Sink.emitted c.args.events.now) _ _ _ _
    (lines_emitted c.args.core.now c.registers.core _ _ _ _ c.registers.invariant.state c.requires.tick
    (rw q at c.access_within.ensures.events))
    c.registers.invariant.before early.1

pub returns-in-Err-clause-answer : goal.returns-in-Err-clause-answer
returns-in-Err-clause-answer g c =
    let q = request_is c.args.kind c.registers.at c.registers.number _ c.registers.core c.args.core.now _
    c.request_of_word-request.ensures
    (ap (λ (s : State). s.registers) c.core-in-registers.view_is) c.registers.invariant.state in
    let early = word_failed _ _ c.registers.core.bus c.args.kind c.registers.at c.args.words.now.list c.registers.number
    c.args.core.now.registers _ (g.S.Sink.emitted c.registers.events).events _ _ c.registers-test.true
    (c.registers.invariant.listed c.registers-test.true)
    (value_read c.args.core.now c.registers.core _ _ c.registers.invariant.state (rw q at c.in-Err.ensures.answer))
    c.registers.invariant.rest in
    early.2

pub returns-in-Err-clause-room : goal.returns-in-Err-clause-room
returns-in-Err-clause-room g c =
    let q = request_is c.args.kind c.registers.at c.registers.number _ c.registers.core c.args.core.now _
    c.request_of_word-request.ensures
    (ap (λ (s : State). s.registers) c.core-in-registers.view_is) c.registers.invariant.state in
    let here = room_here c.args.kind c.registers.at c.args.words.now.list c.registers.number c.args.core.now.registers
    c.registers-test.true (c.registers.invariant.listed c.registers-test.true) in
    let one = rw q at c.access_within.ensures.room in
    omega (arith, here, one, c.registers.invariant.room)

pub returns-clause-state : goal.returns-clause-state
returns-clause-state g c =
    let end : c.registers.number ≡ 16 = omega arith in
    c.registers.invariant.state
    ∙ ap (λ (b : Bus). with_bus c.args.core.now b)
    (words_done _ _ c.registers.core.bus c.args.kind c.registers.at c.args.words.now.list c.registers.number
    c.args.core.now.registers (g.S.Sink.emitted c.registers.events).events _ _ end c.registers.invariant.rest).0

pub returns-clause-events : goal.returns-clause-events
returns-clause-events g c =
    let end : c.registers.number ≡ 16 = omega arith in
    emitted_all (g.S.Sink.emitted c.args.events.now) _ _ c.registers.invariant.before
    (words_done _ _ c.registers.core.bus c.args.kind c.registers.at c.args.words.now.list c.registers.number
    c.args.core.now.registers (g.S.Sink.emitted c.registers.events).events _ _ end c.registers.invariant.rest).1

pub returns-clause-answer : goal.returns-clause-answer
returns-clause-answer g c =
    let end : c.registers.number ≡ 16 = omega arith in
    let all = words_done _ _ c.registers.core.bus c.args.kind c.registers.at c.args.words.now.list c.registers.number
    c.args.core.now.registers (g.S.Sink.emitted c.registers.events).events _ _ end c.registers.invariant.rest in
    (all.3, all.2)

pub returns-clause-room : goal.returns-clause-room
returns-clause-room g c = omega (arith, c.registers.invariant.room)
