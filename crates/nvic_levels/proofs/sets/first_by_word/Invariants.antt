use Rattle.std.proofs.Common.{ℕ, ◌≡◌, ◌*◌, ◌<◌, false}
use Rattle.platform.specs.Priorities.{is_in_words}
use Rattle.nvic_levels.proofs.sets.first_by_word.Given as goal

-- the words before this one have none
abbrev pub invariant-loop-word : goal.invariant-loop-word
invariant-loop-word l = (y : ℕ) → y < l.word * 32 → is_in_words l.set y ≡ false
