use Rattle.std.proofs.Common.{◌≡◌}
use Rattle.platform.specs.Regions.{owner_below}
use Rattle.mpu.proofs.registers.MpuRegs.owner.Given as goal

-- none of the regions that were asked has the address
abbrev pub invariant-loop-number : goal.invariant-loop-number
invariant-loop-number l = owner_below l.self l.address l.number ≡ owner_below l.self l.address l.self.count
