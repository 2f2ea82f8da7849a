use Rattle.std.proofs.Common.{drop, take}
use Rattle.std.specs.Io.KnownBytes.{prepend_known}
use Rattle.output.proofs.Reading.{Ready, filled, given_ahead, has_some}
use Rattle.output.proofs.buffered.BufferedIn.take.Goals as goal
use Rattle.output.proofs.buffered.BufferedIn.take.Goals.{then-self+in-Ok, else-self}

pub returns-clause-received : goal.returns-clause-received
returns-clause-received g c =
    let old = c.args.self.now in
    let mid = c.if-self.self in
    let ready : Ready (prepend_known (drop old.at (take old.end old.bytes)) (g.I.In.reading old.inner).left)
    (g.I.In.reading mid.inner).left (drop mid.at (take mid.end mid.bytes)) (g.I.In.reading old.inner).misses
    (g.I.In.reading mid.inner).misses =
    elim c.if-self.branch [
      | then-self+in-Ok w ↦ rw w.self-is
          (filled (g.I.In.reading old.inner).left _ _ _ _ _ _ _ w.if-self.true w.in-Ok.ensures.filled.0
          w.in-Ok.ensures.filled.1 w.in-Ok.ensures.filled.2)
      | else-self w ↦ rw w.self-is (has_some _ _ _ _ _ w.if-self.false old.order old.within)
    ] in
    rw c.give.ensures.same
    (given_ahead (record (g.I.In.reading old.inner) {
      left = prepend_known (drop old.at (take old.end old.bytes)) (g.I.In.reading old.inner).left;
    }) (g.I.In.reading mid.inner) _ _ _ _ ready c.give.ensures.within c.give.ensures.bytes c.give.ensures.none)
