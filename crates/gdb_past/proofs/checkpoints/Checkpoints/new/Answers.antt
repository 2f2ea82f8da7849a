use Rattle.std.proofs.Common.{◌≡◌, arith, refl}
use Rattle.gdb_past.proofs.Checkpointing.{first_right}
use Rattle.gdb_past.proofs.checkpoints.Checkpoints.new.Goals as goal

pub returns : goal.returns
returns g c =
    let all : c.slots.number ≡ c.args.count = omega (arith, c.slots-test.false, c.slots.auto.number-end) in
    rw (← all) (first_right c.args.machine.now.state c.slots.slots.items c.slots.number _ c.slots.invariant refl)
