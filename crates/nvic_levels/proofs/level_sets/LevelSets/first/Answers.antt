use Rattle.nvic_levels.proofs.Filled.{first_levelled, none_levelled}
use Rattle.nvic_levels.proofs.level_sets.LevelSets.first.Goals as goal

pub returns-in-Some : goal.returns-in-Some
returns-in-Some c =
    rw (← c.self.view_is)
    (first_levelled c.self.inside.sets c.self.inside.filled c.in-Some.priority _ c.self.invariant c.in-Some.ensures
    c.first-in-Some.ensures)

pub returns-in-None : goal.returns-in-None
returns-in-None c =
    rw (← c.self.view_is)
    (none_levelled c.self.inside.sets c.self.inside.filled c.self.told.0 c.self.invariant c.in-None.ensures)
