use Rattle.nvic_levels.proofs.Reset.{reset_is, reset_kept}
use Rattle.nvic_levels.proofs.levels.BitLevelsExceptions.fresh.Goals as goal

pub invariant_of-result : goal.invariant_of-result
invariant_of-result c = reset_kept _ _ _ _ _ _ c.empty-levels.ensures c.empty-held.ensures c.fresh.ensures

pub returns : goal.returns
returns c = reset_is _ _ _ _ _ _ _ c.empty-levels.ensures c.empty-held.ensures c.empty-enabled.ensures
    c.empty-active.ensures c.fresh.ensures
