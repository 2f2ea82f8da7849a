use Rattle.std.proofs.Common.{◌∙◌}
use Rattle.nvic_levels.proofs.Filled.{found_some}
use Rattle.nvic_levels.proofs.sets.has_some.Goals as goal

pub returns : goal.returns
returns c = c.is_some.ensures ∙ found_some _ _ c.first.ensures
