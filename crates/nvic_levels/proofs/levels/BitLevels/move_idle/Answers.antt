use Rattle.std.proofs.Common.{◌<◌, arith, refl, sym, ◌∙◌}
use Rattle.nvic_levels.proofs.KeptLevels.{kept_moved, seen_moved}
use Rattle.nvic_levels.proofs.Lists.{flag}
use Rattle.nvic_levels.proofs.levels.BitLevels.move_idle.Goals as goal

pub invariant_of-self : goal.invariant_of-self
invariant_of-self c =
    let small : c.args.number < 256 = omega arith in
    let out = rw (← c.self.view_is) at c.requires in (
      c.self.invariant.0,
      c.self.invariant.1,
      kept_moved _ _ _ _ _ _ small c.self.invariant.2 (sym (flag _ c.args.number small) ∙ out),
    )

pub returns : goal.returns
returns c =
    let small : c.args.number < 256 = omega arith in
    let out = rw (← c.self.view_is) at c.requires in
    let s = c.self.inside in
    let same = seen_moved s.levels s.held s.enabled s.settings.priorities c.args.number c.args.byte small
    c.self.invariant.2 (sym (flag _ c.args.number small) ∙ out) in
    rw (← c.self.view_is) (rw same refl)
