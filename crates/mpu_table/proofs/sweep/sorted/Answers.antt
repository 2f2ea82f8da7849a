use Rattle.std.proofs.Common.{length, ap, ◌∙◌}
use Rattle.std.proofs.lemmas.List.Sorted.{IsNonDecreasingBy-from_sort}
use Rattle.mpu_table.proofs.Owned.{parts_sorted, refilled}
use Rattle.mpu_table.proofs.sweep.sorted.Goals as goal

pub returns-clause-parts : goal.returns-clause-parts
returns-clause-parts c =
    let e = c.as_mut_slice.ensures.value in
    let same = refilled c.args.points.items c.sort_unstable.new.self (c.sort_unstable.ensures.len ∙ ap length e) in
    rw same (parts_sorted _ _ c.args.registers.now (rw e at c.sort_unstable.ensures.permutation) c.requires.parts)

pub returns-clause-order : goal.returns-clause-order
returns-clause-order c =
    let e = c.as_mut_slice.ensures.value in
    let same = refilled c.args.points.items c.sort_unstable.new.self (c.sort_unstable.ensures.len ∙ ap length e) in
    rw same (IsNonDecreasingBy-from_sort (λ x. x) _ c.sort_unstable.ensures.sorted)
