use Rattle.std.proofs.Common.{◌≡◌, ◌*◌}
use Rattle.platform.specs.Priorities.{highest_active}
use Rattle.nvic_levels.proofs.levels.BitLevelsExceptions.active_priority.Given as goal

-- what was found so far is the least of the exceptions of the words that were looked at
abbrev pub invariant-words : goal.invariant-words
invariant-words l = l.least ≡ highest_active l.fn.self (l.word * 32)
