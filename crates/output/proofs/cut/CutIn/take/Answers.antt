use Rattle.output.proofs.Cutting.{passed_on}
use Rattle.output.proofs.cut.CutIn.take.Goals as goal

pub returns-then-self-gt0-clause-received : goal.returns-then-self-gt0-clause-received
returns-then-self-gt0-clause-received g c =
    passed_on _ _ (g.I.In.reading c.args.self.now.inner) (g.I.In.reading c.take_front.new.self.inner) _ _ _ _ _ _
    c.take_front.ensures.received c.take_front.ensures.passes
    c.take_front.ensures.same.0 c.take_front.ensures.same.1
