use Rattle.std.proofs.Common.{◌≡◌, ◌<◌, arith}
use Rattle.nvic_levels.proofs.Active.{looked_last, looked_next}
use Rattle.nvic_levels.proofs.levels.BitLevels.raised_in_word.Goals as goal

pub bits-preserved : goal.bits-preserved
bits-preserved c =
    let some : 0 < c.bits.rest = omega (arith, c.bits-test.true) in
    rw (c.raised_by-least.ensures)
    (looked_next c.args.self.now c.args.bits c.args.word c.bits.number c.bits.rest c.bits.least c.requires.active
    c.ranges.bits.fits c.bits.invariant some)

pub returns : goal.returns
returns c =
    let none : c.bits.rest ≡ 0 = omega (arith, c.bits-test.false) in
    looked_last c.args.self.now c.args.bits c.args.word c.bits.number c.bits.rest c.bits.least c.requires.active
    c.bits.invariant none
