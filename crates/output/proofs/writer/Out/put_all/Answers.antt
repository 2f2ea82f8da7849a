use Rattle.std.proofs.Common.{◌+◌, ◌∙◌, ap}
use Rattle.output.proofs.Sending.{some_sent, still_sent, cut_short, cut_by_none, counted, not_counted, is_left}
use Rattle.output.proofs.writer.Out.put_all.Goals as goal

-- a call that took none
pub returns-in-Ok-eq0 : goal.returns-in-Ok-eq0
returns-in-Ok-eq0 g c =
    let left = is_left _ c.pieces-test.ensures in (
      cut_by_none _ _ _ _ _ _ c.pieces.invariant.sent c.in-Ok-eq0.ensures.1 c.in-Ok-eq0.field-0-test left,
      counted c.pieces.rest.now _ _ _ c.in-Ok-eq0.field-0-test left c.in-Ok-eq0.ensures.2
          ∙ ap (λ n. n + 1) c.pieces.invariant.same,
    )

-- a call that took some
pub pieces-preserved : goal.pieces-preserved
pieces-preserved g c = record {
  sent = rw c.split_at.ensures.back (some_sent _ _ _ _ _ _ c.pieces.invariant.sent c.in-Ok.ensures.1);
  same = not_counted c.pieces.rest.now _ _ _ c.in-Ok.taken-test.1 c.in-Ok.ensures.2 ∙ c.pieces.invariant.same;
}

-- a call that failed
pub returns-in-Err : goal.returns-in-Err
returns-in-Err g c = (
  cut_short _ _ _ _ (still_sent _ _ _ _ _ c.pieces.invariant.sent c.in-Err.ensures.0) (is_left _ c.pieces-test.ensures),
  c.in-Err.ensures.1 ∙ ap (λ n. n + 1) c.pieces.invariant.same,
)
