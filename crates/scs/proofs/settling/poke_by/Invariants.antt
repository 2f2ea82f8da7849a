use Rattle.std.proofs.Common.{◌≡◌, ◌||◌, drop}
use Rattle.devices.specs.Pokes.{poked_all}
use Rattle.platform.specs.System.{pokes_of}
use Rattle.scs.specs.LineLevels.{are_pokes}
use Rattle.scs.proofs.settling.poke_by.Given as goal

-- the events that are left poke the rest
abbrev pub invariant-events : goal.invariant-events
invariant-events l =
    (poked_all l.devices l.ticks (pokes_of (drop l.event-index l.events))
    ≡ poked_all l.fn.devices l.fn.ticks (pokes_of l.fn.events))
    × ((l.poked || are_pokes (pokes_of (drop l.event-index l.events))) ≡ are_pokes (pokes_of l.fn.events))
