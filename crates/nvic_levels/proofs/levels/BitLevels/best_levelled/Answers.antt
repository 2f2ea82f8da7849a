use Rattle.nvic_levels.proofs.First.{best_found, best_absent, of_view}
use Rattle.nvic_levels.proofs.levels.BitLevels.best_levelled.Goals as goal

pub returns-in-Some : goal.returns-in-Some
returns-in-Some c =
    let nmi = rw (← c.self.view_is) at c.requires.nmi in
    let fault = rw (← c.self.view_is) at c.requires.hard_fault in
    let e = c.in-Some.ensures in
    let s = c.self.inside in
    let view = of_view s.levels s.held s.enabled s.active s.settings.priorities s.settings.group s.settings.masks
    s.settings.interrupts s.settings.priority_bits c.self.invariant.2 in
    rw (c.from.ensures, ← c.self.view_is)
    (best_found _ s.levels s.held s.enabled e.0 c.in-Some.number view nmi fault e.1 e.2)

pub returns-in-None : goal.returns-in-None
returns-in-None c =
    let nmi = rw (← c.self.view_is) at c.requires.nmi in
    let fault = rw (← c.self.view_is) at c.requires.hard_fault in
    let s = c.self.inside in
    let view = of_view s.levels s.held s.enabled s.active s.settings.priorities s.settings.group s.settings.masks
    s.settings.interrupts s.settings.priority_bits c.self.invariant.2 in
    rw (← c.self.view_is) (best_absent _ s.levels s.held s.enabled view nmi fault c.in-None.ensures)
