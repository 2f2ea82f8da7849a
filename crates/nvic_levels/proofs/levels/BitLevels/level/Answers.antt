use Rattle.nvic_levels.proofs.First.{level_exactly, of_view}
use Rattle.nvic_levels.proofs.levels.BitLevels.level.Goals as goal

pub returns : goal.returns
returns c =
    let s = c.self.inside in
    let view = of_view s.levels s.held s.enabled s.active s.settings.priorities s.settings.group s.settings.masks
    s.settings.interrupts s.settings.priority_bits c.self.invariant.2 in
    rw (c.of.ensures, ← c.self.view_is) (λ x h. level_exactly _ s.levels s.held s.enabled c.args.priority x view h)
