use Rattle.std.proofs.Common.{◌+◌, ◌≤◌, length, ℕ, arith, sym, ◌∙◌, ap}
use Rattle.exceptions.proofs.FrameWords.{word_done, word_failed, words_done}
use Rattle.exceptions.proofs.Performing.{bus_changed, emitted_all, emitted_on, lines_emitted, own_bus}
use Rattle.exceptions.proofs.Performing.{still_before, value_read}
use Rattle.reference.specs.State.{Bus, with_bus}
use Rattle.exceptions.proofs.frames.perform_frame.Goals as goal

pub words-preserved : goal.words-preserved
words-preserved g c =
    let q = c.word-request.ensures in
    let made = bus_changed c.args.core.now c.words.core _ _ c.words.invariant.state
    (rw q at c.access_within.ensures.state) in
    let lines = lines_emitted c.args.core.now c.words.core _ _ _ _ c.words.invariant.state c.ticks-tick.ensures
    (rw q at c.access_within.ensures.events) in
    let read = value_read c.args.core.now c.words.core _ _ c.words.invariant.state
    (rw q at c.in-Ok.ensures.answer) in
    record {
      state = own_bus c.args.core.now _ _ made;
      rest = rw (lines, c.push.ensures.items, made)
          (sym (word_done _ _ c.words.core.bus c.args.frame.now.kind c.args.frame.now.privileged c.words.at
          c.args.words.now c.words.value-index _ _ (g.S.Sink.emitted c.words.events).events _ c.words-test.true read)
          ∙ c.words.invariant.rest);
      before = still_before (g.S.Sink.emitted c.args.events.now) _ _ _ c.access_within.ensures.events
          c.words.invariant.before;
      room = let one = rw (q, c.requires.kind) at c.access_within.ensures.room in
          omega (arith, one, c.words.invariant.room);
      few = c.push.ensures.len ∙ ap (λ (n : ℕ). n + 1) c.words.invariant.few;
      span = rw q at c.access_within.ensures.granted;
    }

pub returns-in-Err-clause-state : goal.returns-in-Err-clause-state
returns-in-Err-clause-state g c =
    let q = c.word-request.ensures in
    let early = word_failed _ _ c.words.core.bus c.args.frame.now.kind c.args.frame.now.privileged c.words.at
    c.args.words.now c.words.value-index _ _ (g.S.Sink.emitted c.words.events).events _ _ c.words-test.true
    (value_read c.args.core.now c.words.core _ _ c.words.invariant.state (rw q at c.in-Err.ensures.answer))
    c.words.invariant.rest in
    bus_changed c.args.core.now c.words.core _ _ c.words.invariant.state (rw q at c.access_within.ensures.state)
    ∙ ap (λ (b : Bus). with_bus c.args.core.now b) early.0

pub returns-in-Err-clause-events : goal.returns-in-Err-clause-events
returns-in-Err-clause-events g c =
    let q = c.word-request.ensures in
    let early = word_failed _ _ c.words.core.bus c.args.frame.now.kind c.args.frame.now.privileged c.words.at
    c.args.words.now c.words.value-index _ _ (g.S.Sink.emitted c.words.events).events _ _ c.words-test.true
    (value_read c.args.core.now c.words.core _ _ c.words.invariant.state (rw q at c.in-Err.ensures.answer))
    c.words.invariant.rest in
    emitted_on (g.S.Sink.emitted c.args.events.now) _ _ _ _
    (lines_emitted c.args.core.now c.words.core _ _ _ _ c.words.invariant.state c.ticks-tick.ensures
    (rw q at c.access_within.ensures.events))
    c.words.invariant.before early.1

pub returns-in-Err-clause-answer : goal.returns-in-Err-clause-answer
returns-in-Err-clause-answer g c =
    let q = c.word-request.ensures in
    let early = word_failed _ _ c.words.core.bus c.args.frame.now.kind c.args.frame.now.privileged c.words.at
    c.args.words.now c.words.value-index _ _ (g.S.Sink.emitted c.words.events).events _ _ c.words-test.true
    (value_read c.args.core.now c.words.core _ _ c.words.invariant.state (rw q at c.in-Err.ensures.answer))
    c.words.invariant.rest in
    early.2

pub returns-clause-state : goal.returns-clause-state
returns-clause-state g c =
    let past : length c.args.words.now ≤ c.words.value-index = omega arith in
    c.words.invariant.state
    ∙ ap (λ (b : Bus). with_bus c.args.core.now b)
    (words_done _ _ c.words.core.bus c.args.frame.now.kind c.args.frame.now.privileged c.words.at c.args.words.now
    c.words.value-index (g.S.Sink.emitted c.words.events).events _ _ past c.words.invariant.rest).0

pub returns-clause-events : goal.returns-clause-events
returns-clause-events g c =
    let past : length c.args.words.now ≤ c.words.value-index = omega arith in
    emitted_all (g.S.Sink.emitted c.args.events.now) _ _ c.words.invariant.before
    (words_done _ _ c.words.core.bus c.args.frame.now.kind c.args.frame.now.privileged c.words.at c.args.words.now
    c.words.value-index (g.S.Sink.emitted c.words.events).events _ _ past c.words.invariant.rest).1

pub returns-clause-answer : goal.returns-clause-answer
returns-clause-answer g c =
    let past : length c.args.words.now ≤ c.words.value-index = omega arith in
    let all = words_done _ _ c.words.core.bus c.args.frame.now.kind c.args.frame.now.privileged c.words.at
    c.args.words.now c.words.value-index (g.S.Sink.emitted c.words.events).events _ _ past c.words.invariant.rest in
    (all.3, all.2)
