use Rattle.std.proofs.Common.{◌<◌, length, arith}
use Rattle.nvic_levels.proofs.Filled.{summary_put}
use Rattle.nvic_levels.proofs.level_sets.LevelSets.put_at.Goals as goal

pub invariant_of-self : goal.invariant_of-self
invariant_of-self c =
    let all = c.self.told.0 in
    let room : c.args.priority < length c.self.inside.sets = omega (arith, all) in
    summary_put c.self.inside.sets c.self.inside.filled c.put-2.new.set c.put.new.set c.args.priority c.has_some.result
    room c.self.invariant c.has_some.ensures c.put-2.ensures
