use Rattle.gdb_past.proofs.Checkpointing.{kept_right, slot_fits}
use Rattle.gdb_past.proofs.checkpoints.Checkpoints.save_to.Goals as goal

pub set-requires : goal.set-requires
set-requires g c =
    slot_fits c.self.inside.slots.items c.args.slot c.index_mut.result.now c.args.machine.now.state
    (rw (← c.self.view_is) at c.requires.slot) (rw (← c.self.view_is) at c.requires.fits)
    c.index_mut.ensures.value

pub returns : goal.returns
returns g c = λ start m count right here fits.
    kept_right start m c.args.machine.now.state count c.args.self.now _ c.args.slot c.args.steps right here fits
    (rw (← c.self.view_is, c.set.ensures) cc)
