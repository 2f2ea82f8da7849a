use Rattle.std.proofs.Common.{arith, pow_pos, ◌<◌, ◌^◌}
use Rattle.mpu.proofs.Blocks.{alike_inside}
use Rattle.mpu.proofs.spans.cut_inside.Goals as goal

pub returns-clause-alike : goal.returns-clause-alike
returns-clause-alike c = λ a from to.
    let pos : 0 < 2 ^ c.grain.result = pow_pos c.grain.result in
    let next = c.block_of-near.ensures.next in
    alike_inside c.args.region a c.args.address _ _ _ c.grain.ensures.value c.block_of-near.ensures.first
    c.block_of-near.ensures.next (omega arith) (omega arith)
