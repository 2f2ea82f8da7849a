use Rattle.std.proofs.Common.{◌<◌, arith, sym, ◌∙◌}
use Rattle.nvic_levels.proofs.KeptLevels.{kept_switched}
use Rattle.nvic_levels.proofs.Lists.{flag}
use Rattle.nvic_levels.proofs.levels.BitLevels.switch_idle.Goals as goal

pub invariant_of-self : goal.invariant_of-self
invariant_of-self c =
    let small : c.args.number < 256 = omega arith in
    let out = rw (← c.self.view_is) at c.requires in (
      c.self.invariant.0,
      c.self.invariant.1,
      kept_switched _ _ _ _ _ _ _ small c.self.invariant.2 (sym (flag _ c.args.number small) ∙ out) c.put.ensures,
    )
