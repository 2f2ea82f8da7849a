use Rattle.std.proofs.Common.{◌≡◌, ap, arith, ◌∙◌}
use Rattle.access_map.specs.Notes.{notes_below}
use Rattle.access_map.proofs.notes.notes_of.Goals as goal

pub returns : goal.returns
returns c =
    let u = c.each.invariant.upto in
    let t = c.each-test.false in
    let n = c.count-region-end.ensures.value in
    let last : c.each.region ≡ c.args.registers.now.count = omega (arith, u, t, n) in
    c.each.invariant.text ∙ ap (λ k. notes_below c.args.number c.args.registers.now k) last
