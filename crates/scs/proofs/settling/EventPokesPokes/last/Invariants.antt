use Rattle.std.proofs.Common.{◌≡◌, None, drop}
use Rattle.devices.specs.Pokes.{last_poke}
use Rattle.platform.specs.System.{pokes_of}
use Rattle.scs.proofs.settling.EventPokesPokes.last.Given as goal

-- the events that are left have the last poke, or else it's the one that was found
abbrev pub invariant-events : goal.invariant-events
invariant-events l =
    last_poke (pokes_of (drop l.event-index l.self.events.now)) l.address l.last
    ≡ last_poke (pokes_of l.fn.self.events.now) l.fn.address None
