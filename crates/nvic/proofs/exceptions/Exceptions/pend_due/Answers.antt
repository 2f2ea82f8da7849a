use Rattle.std.proofs.Common.{◌≡◌, ◌∙◌, arith}
use Rattle.nvic.proofs.Sets.{last_word}
use Rattle.nvic.proofs.exceptions.Exceptions.pend_due.Goals as goal

pub returns : goal.returns
returns g c =
    let all : c.words.word ≡ 8 = omega (arith, c.words.auto.word-end, c.words-test) in
    c.words.invariant ∙ last_word _ _ c.words.word all
