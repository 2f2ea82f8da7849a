use Rattle.nvic_levels.proofs.Active.{HasLooked}
use Rattle.nvic_levels.proofs.levels.BitLevels.raised_in_word.Given as goal

-- the exceptions of the word before `number` have been looked at
abbrev pub invariant-bits : goal.invariant-bits
invariant-bits l = HasLooked l.fn.self l.fn.bits l.word l.number l.rest l.least

abbrev pub decreases-bits : goal.decreases-bits
decreases-bits l = l.rest
