use Rattle.std.proofs.Common.{append_assoc}
use Rattle.trace.specs.Tails.{tail}
use Rattle.trace.proofs.page.Page.put_return.Goals as goal

pub returns-clause-text : goal.returns-clause-text
unfolding tail
returns-clause-text g c =
    rw (c.put-3.ensures, c.put-2.ensures, c.put.ensures, c.word.ensures) (simp append_assoc)
