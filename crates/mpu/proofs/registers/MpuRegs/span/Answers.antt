use Rattle.std.proofs.Common.{arith}
use Rattle.mpu.proofs.Blocks.{belong_all}
use Rattle.mpu.proofs.registers.MpuRegs.span.Goals as goal

pub returns-clause-alike : goal.returns-clause-alike
returns-clause-alike c = belong_all _ _ _ _ (λ k h. c.loop-number.invariant.alike k (omega arith))
