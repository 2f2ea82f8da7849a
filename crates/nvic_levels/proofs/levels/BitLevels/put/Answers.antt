use Rattle.std.proofs.Common.{sym, ◌∙◌}
use Rattle.nvic_levels.proofs.KeptLevels.{kept_levelled}
use Rattle.nvic_levels.proofs.levels.BitLevels.put.Goals as goal

pub invariant_of-self : goal.invariant_of-self
invariant_of-self c = (
  c.self.invariant.0,
  c.self.invariant.1,
  kept_levelled _ _ _ _ _ _ _ c.self.invariant.2 (sym c.is_levelled.ensures ∙ c.if-is_levelled.true) c.put_at.ensures,
)
