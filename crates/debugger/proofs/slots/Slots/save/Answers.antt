use Rattle.std.proofs.Common.{subst, sym, ◌<◌, length, arith}
use Rattle.debugger.specs.Slots.{HaveRoom, Slot}
use Rattle.step_laws.specs.SizeLaw.{AreOfOneBoard}
use Rattle.debugger.proofs.slots.Slots.save.Goals as goal

pub save-requires : goal.save-requires
save-requires g c =
    let m = (g.T.Target.model c.args.machine.now).state.bus in
    let room : HaveRoom c.self.inside.slots.items m = rw (← c.self.view_is) at c.requires in
    let there : c.args.slot < length c.self.inside.slots.items = omega (arith, c.if-slot-len.true, c.len.ensures) in
    subst (λ (s : Slot). AreOfOneBoard s.state.bus m) (sym c.index_mut.ensures.value)
    (room c.args.slot c.index_mut.result.now there)
