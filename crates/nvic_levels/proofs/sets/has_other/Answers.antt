use Rattle.std.proofs.Common.{◌∙◌}
use Rattle.nvic_levels.proofs.Others.{first_other}
use Rattle.nvic_levels.proofs.sets.has_other.Goals as goal

pub returns : goal.returns
returns c = c.is_some.ensures ∙ first_other _ _ _ _ c.without-others.ensures c.first.ensures
