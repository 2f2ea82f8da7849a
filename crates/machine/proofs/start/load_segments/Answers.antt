use Rattle.machine.proofs.Loading.{others_rest}
use Rattle.machine.proofs.start.load_segments.Goals as goal

pub segments-preserved : goal.segments-preserved
segments-preserved c = rw c.overwrite.ensures (others_rest _ _ _ _ _ c.segments-test.true c.segments.invariant)
