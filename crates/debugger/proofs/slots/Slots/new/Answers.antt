use Rattle.std.proofs.Common.{arith, false, refl, None, replicate, ap, ◌∙◌}
use Rattle.debugger.proofs.Rooms.{one_made}
use Rattle.debugger.specs.Slots.{Slot}
use Rattle.debugger.proofs.slots.Slots.new.Goals as goal

pub slots-preserved : goal.slots-preserved
slots-preserved g c =
    let slot : Slot = record { state = g.T.Target.saved_state c.in_ok-save.field-0; is_saved = false } in
    one_made c.slots.number c.slots.slots.items _ slot (g.T.Target.model c.args.machine.now).state c.slots.invariant
    refl c.in_ok-save.ensures c.in_ok-push.ensures.items

pub invariant_of-result : goal.invariant_of-result
invariant_of-result g c =
    let fits = c.ranges.count.fits in
    let few = c.slots.auto.number-end in
    let count = c.slots.invariant.count in
    omega arith

pub returns-clause-saved : goal.returns-clause-saved
returns-clause-saved g c =
    c.slots.invariant.saved
    ∙ ap (λ n. replicate n None) (omega (arith, c.slots-test.false, c.slots.auto.number-end))
