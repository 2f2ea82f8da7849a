use Rattle.std.proofs.Common.{◌<◌, arith, ◌∙◌, sym}
use Rattle.access_map.proofs.Describing.{described}
use Rattle.access_map.proofs.interval.Interval.at.Goals as goal

pub returns-clause-right : goal.returns-clause-right
returns-clause-right c a above below =
    let eighth = c.end_of_eighth.ensures.same in
    let low : c.args.within.first < 0xE000_0000 = omega arith in
    let end : c.end_of_eighth.result < 0xE000_0000 = omega (arith, eighth) in
    let alike = described c.args.world.now c.args.place c.args.within.first c.min-2.result c.end_of_eighth.result
    end eighth (omega arith) c.span.result.first c.span.result.last c.span.ensures.first
    (omega arith) c.span.ensures.alike a above below in
    (alike.0 ∙ sym c.rights_at.ensures, alike.1 ∙ sym c.rule_at.ensures)
