use Rattle.std.proofs.Common.{◌∙◌, ap, arith, sym}
use Rattle.access_map.proofs.Spans.{shared_inside, shared_outside}
use Rattle.access_map.specs.Sharing.{is_in_ram}
use Rattle.platform.specs.Boards.{numbers_of}
use Rattle.access_map.proofs.sharing.Stretch.at.Goals as goal

-- each address is in RAM where the first is
pub returns-then-is_in_ram-clause-right : goal.returns-then-is_in_ram-clause-right
returns-then-is_in_ram-clause-right c a above below =
    let first = c.in_ram.ensures.first in
    let last = c.in_ram.ensures.last in
    shared_inside _ _ _ _ a
    (c.cut_at_ram-within.ensures.alike a (omega (arith, first)) (omega (arith, last))
    ∙ ap (λ b. is_in_ram (numbers_of c.args.board.now) b) c.cut_at_ram-within.ensures.first
    ∙ sym c.is_in_ram.ensures ∙ c.if-is_in_ram.true)
    ∙ c.in_ram.ensures.right a above below

pub returns-clause-right : goal.returns-clause-right
returns-clause-right c a above below =
    shared_outside _ _ _ _ a
    (c.cut_at_ram-within.ensures.alike a above below
    ∙ ap (λ b. is_in_ram (numbers_of c.args.board.now) b) c.cut_at_ram-within.ensures.first
    ∙ sym c.is_in_ram.ensures ∙ c.if-is_in_ram.false)
