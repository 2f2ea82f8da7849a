use Rattle.platform.specs.declared.exception.TheConstants.{EXCEPTIONS}
use Rattle.nvic_levels.proofs.Bits.{no_level}
use Rattle.nvic_levels.proofs.Filled.{summary_none}
use Rattle.nvic_levels.proofs.level_sets.LevelSets.empty.Goals as goal

pub invariant_of-result : goal.invariant_of-result
invariant_of-result c = summary_none EXCEPTIONS c.empty-set.result _ c.empty-set.ensures c.empty.ensures

pub returns : goal.returns
returns c = no_level EXCEPTIONS c.empty-set.result c.empty-set.ensures
