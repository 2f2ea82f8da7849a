use Rattle.mpu.proofs.Sound.{with_region-sound}
use Rattle.mpu.proofs.registers.MpuRegs.set_base.Goals as goal

pub invariant_of-self : goal.invariant_of-self
invariant_of-self c = with_region-sound _ _ _ c.self.invariant c.requires (c.self.invariant.taken _)
