use Rattle.std.proofs.Common.{arith, ◌≤◌}
use Rattle.mpu.proofs.Blocks.{outside_before, outside_beyond, past_block, matches_outside}
use Rattle.mpu.proofs.spans.cut_outside.Goals as goal

pub overflow_cast-result-else-from-far : goal.overflow_cast-result-else-from-far
overflow_cast-result-else-from-far c =
    let h : c.block_of-far.result.next ≤ c.args.address =
    past_block c.args.region c.args.address _ _ _ c.requires.outside c.size.ensures.value
    c.block_of-far.ensures.first c.block_of-far.ensures.next (omega arith) in
    omega arith

pub returns-then-from-far-clause-alike : goal.returns-then-from-far-clause-alike
returns-then-from-far-clause-alike c = λ a from to.
    matches_outside c.args.region a c.args.address
    (outside_before c.args.region a _ _ c.size.ensures.value c.block_of-far.ensures.first (omega arith))
    c.requires.outside

pub returns-else-from-far-clause-first : goal.returns-else-from-far-clause-first
returns-else-from-far-clause-first c =
    let h : c.block_of-far.result.next ≤ c.args.address =
    past_block c.args.region c.args.address _ _ _ c.requires.outside c.size.ensures.value
    c.block_of-far.ensures.first c.block_of-far.ensures.next (omega arith) in
    omega arith

pub returns-else-from-far-clause-alike : goal.returns-else-from-far-clause-alike
returns-else-from-far-clause-alike c = λ a from to.
    matches_outside c.args.region a c.args.address
    (outside_beyond c.args.region a _ _ c.size.ensures.value c.block_of-far.ensures.next (omega arith))
    c.requires.outside
