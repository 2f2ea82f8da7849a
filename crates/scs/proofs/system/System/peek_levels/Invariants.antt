use Rattle.std.proofs.Common.{◌≡◌, drop}
use Rattle.platform.specs.System.{with_levels}
use Rattle.scs.specs.LineLevels.{with_due_and_high}
use Rattle.scs.proofs.system.System.peek_levels.Given as goal

-- the levels that are left do the rest
abbrev pub invariant-levels : goal.invariant-levels
invariant-levels g l =
    with_levels (with_due_and_high l.self l.due l.high) (drop l.level-index l.levels)
    ≡ with_levels (with_due_and_high l.fn.self l.fn.due l.fn.high) l.fn.levels
