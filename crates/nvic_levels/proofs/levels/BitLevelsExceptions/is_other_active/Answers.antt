use Rattle.std.proofs.Common.{◌∙◌, ap}
use Rattle.nvic_levels.proofs.Others.{other_active}
use Rattle.platform.specs.Priorities.{Nvic}
use Rattle.nvic_levels.proofs.levels.BitLevelsExceptions.is_other_active.Goals as goal

pub returns : goal.returns
returns c =
    c.has_other.ensures
    ∙ other_active c.args.self.now _ c.args.number (ap (λ (n : Nvic). n.active) c.self.view_is)
