use Rattle.std.proofs.Common.{◌∙◌, ap, drop, length, arith}
use Rattle.output.proofs.Gathering.{moved_on}
use Rattle.output.proofs.Sending.{not_counted}
use Rattle.output.proofs.paged.Paged.flush.Goals as goal

pub pieces-preserved : goal.pieces-preserved
pieces-preserved g c = record {
  known = moved_on _ _ _ _ _ _ _ c.pieces.invariant.known
      (c.split_at.ensures.back ∙ ap (drop c.pieces.self.at) c.as_slice.ensures) c.in-Ok.ensures.1;
  within = omega (arith, c.in-Ok.ensures.0, c.split_at.ensures.back_len, ap length c.as_slice.ensures);
  same = not_counted c.split_at.result.1.now _ _ _ c.in-Ok.taken-test.1 c.in-Ok.ensures.2 ∙ c.pieces.invariant.same;
}
