use Rattle.std.proofs.Common.{◌≡◌, true, false}
use Rattle.serving.proofs.Answering.{at_end, begun, closed, cut_at, cut_at_end, ended, answered_kept, answered_on}
use Rattle.serving.proofs.sessions.serve.Goals as goal

pub calls-init : goal.calls-init
calls-init g c =
    begun g.P.Protocol.conduct g.P.Protocol.ready _ _ _ _ c.requires.open c.requires.ready

-- the end of the input
pub returns-in-Ok-clause-held : goal.returns-in-Ok-clause-held
returns-in-Ok-clause-held g c =
    let took = rw c.in-Ok-None.field-0-is at c.in-Ok-None.ensures in
    let so_far = answered_kept g.P.Protocol.conduct g.P.Protocol.ready _ _ _ _ _ _ _ _ _ _
    (g.W.Out.writing c.take_next.new.out) c.calls.invariant took.1 in
    (ended _ _ _ _ _ _ _ (g.W.Out.writing c.send_rest.new.out) _
    (at_end g.P.Protocol.conduct g.P.Protocol.ready _ _ _ _ _ _ _ _ _ _ _ _ _ so_far took.0.0 took.0.1
    c.in-Ok.ensures) c.send_rest.ensures).0

pub returns-in-Err-finish-clause-held : goal.returns-in-Err-finish-clause-held
returns-in-Err-finish-clause-held g c =
    let took = rw c.in-Ok-None.field-0-is at c.in-Ok-None.ensures in
    let so_far = answered_kept g.P.Protocol.conduct g.P.Protocol.ready _ _ _ _ _ _ _ _ _ _
    (g.W.Out.writing c.take_next.new.out) c.calls.invariant took.1 in
    cut_at_end g.P.Protocol.conduct g.P.Protocol.ready _ _ _ _ _ _ _ _ _ _ _ _ _ so_far took.0.0
    c.in-Err-finish.ensures

pub returns-in-Err-answer_byte-clause-held : goal.returns-in-Err-answer_byte-clause-held
returns-in-Err-answer_byte-clause-held g c =
    let took = rw c.in-Ok-Some.field-0-is at c.in-Ok-Some.ensures in
    let so_far = answered_kept g.P.Protocol.conduct g.P.Protocol.ready _ _ _ _ _ _ _ _ _ _
    (g.W.Out.writing c.take_next.new.out) c.calls.invariant took.1 in
    cut_at g.P.Protocol.conduct g.P.Protocol.ready _ _ _ _ _ _ _ _ _ _ _ _ _ _ so_far took.0
    c.in-Err-answer_byte.ensures.delivers

-- the session reads no further
pub returns-then-not-is_open-clause-held : goal.returns-then-not-is_open-clause-held
returns-then-not-is_open-clause-held g c =
    let took = rw c.in-Ok-Some.field-0-is at c.in-Ok-Some.ensures in
    let so_far = answered_kept g.P.Protocol.conduct g.P.Protocol.ready _ _ _ _ _ _ _ _ _ _
    (g.W.Out.writing c.take_next.new.out) c.calls.invariant took.1 in
    let shut : g.P.Protocol.conduct.is_open c.answer_byte.new.self ≡ false = cc in
    (ended _ _ _ _ _ _ _ (g.W.Out.writing c.send_rest-then-not-is_open.new.out) _
    (closed g.P.Protocol.conduct g.P.Protocol.ready _ _ _ _ _ _ _ _ _ _ _ _ _ _ _ so_far took.0
    c.in-Ok-answer_byte.ensures.delivers c.in-Ok-answer_byte.ensures.kept shut) c.send_rest-then-not-is_open.ensures).0

pub calls-preserved : goal.calls-preserved
calls-preserved g c =
    let took = rw c.in-Ok-Some.field-0-is at c.in-Ok-Some.ensures in
    let so_far = answered_kept g.P.Protocol.conduct g.P.Protocol.ready _ _ _ _ _ _ _ _ _ _
    (g.W.Out.writing c.take_next.new.out) c.calls.invariant took.1 in
    let goes : g.P.Protocol.conduct.is_open c.answer_byte.new.self ≡ true = cc in
    answered_on g.P.Protocol.conduct g.P.Protocol.ready _ _ _ _ _ _ _ _ _ _ _ _ _ _ _ so_far took.0
    c.in-Ok-answer_byte.ensures.delivers c.in-Ok-answer_byte.ensures.kept goes c.in-Ok-answer_byte.ensures.ready
