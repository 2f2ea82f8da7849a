use Rattle.mpu_table.proofs.Deciding.{by_own}
use Rattle.mpu_table.proofs.table.Table.by_interval.Goals as goal

pub returns-in-Some : goal.returns-in-Some
returns-in-Some c = λ m stands.
    let v = c.self.view_is in
    let s = rw (← v) at stands in
    let within = rw (← v) at c.find-place.ensures.within in
    let there = rw (← v) at c.find-place.ensures.there in
    by_own _ m c.args.kind c.args.address c.args.privileged c.find-place.result.0 c.in-Some.number _ s within there
    (rw c.deref.ensures.0 at c.in-Some.is) (c.self.invariant.within _ _ within) c.by_region.ensures.rule
    c.by_region.ensures.granted
