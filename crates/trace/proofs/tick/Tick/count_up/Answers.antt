use Rattle.std.proofs.Common.{◌≡◌, suc, ◌+◌, ◌-◌, ◌<◌, ◌^◌, length, arith}
use Rattle.trace.proofs.Ticks.{counted_up}
use Rattle.trace.proofs.tick.Tick.count_up.Goals as goal

pub invariant_of-self : goal.invariant_of-self
invariant_of-self c =
    let at : c.self.inside.count ≡ suc (c.self.inside.count - 1) = omega arith in
    let inside : c.self.inside.count - 1 < length c.self.inside.front = omega arith in
    let small : c.self.inside.first + 10 < 2 ^ 64 = omega arith in
    let low : c.self.inside.first + 10 < 2 ^ 63 = omega arith in
    let digits = counted_up c.self.inside.front (c.self.inside.count - 1) c.self.inside.count c.self.inside.first at
    inside small
    c.if-self-count-ge57.false c.self.invariant.0.0 in ((digits, c.self.invariant.0.1), low)
