use Rattle.std.proofs.Common.{◌≡◌, drop}
use Rattle.platform.specs.System.{pokes_of}
use Rattle.scs.specs.LineLevels.{are_pokes}
use Rattle.scs.proofs.settling.has_pokes.Given as goal

-- no event poked so far
abbrev pub invariant-events : goal.invariant-events
invariant-events l = are_pokes (pokes_of (drop l.event-index l.events)) ≡ are_pokes (pokes_of l.fn.events)
