use Rattle.mpu.proofs.Sound.{with_region-sound}
use Rattle.mpu.proofs.registers.MpuRegs.set_attributes.Goals as goal

pub invariant_of-self : goal.invariant_of-self
invariant_of-self c = with_region-sound _ _ _ c.self.invariant (c.self.invariant.based _) c.requires
