-- Lines of devices that have settled (profile).
use Rattle.std.specs.Prelude.{◌≡◌, List, [], ◌∷◌}
use Rattle.devices.specs.declared.level.Level.{Level}
use Rattle.devices.specs.Lines.{levels}
use Rattle.platform.specs.System.{System}
use Rattle.platform.specs.SystemInvariant.{table_of}
use Rattle.platform.specs.Time.{Time, is_high}
use Rattle.reference.specs.State.{State}
use Rattle.platform.specs.Wiring.{AreWired}

-- the interrupts of these levels are at them
abbrev pub AreAt : Time → List Level → Type 0
AreAt t [] = Unit {0}
AreAt t (l ∷ ls) = (is_high t l.number ≡ l.is_high) × AreAt t ls

-- an interrupt that a device drives is high where the level of the device's line is 1, and low where it is 0
abbrev pub HasSettledLines : System → Type 0
HasSettledLines s = AreAt s.time (levels s.devices s.time.ticks)

-- the devices go together with the events that are still to come, and their lines have settled
pub record IsSettled (s : State) : Type 0 where
  pub wired : AreWired (table_of s.bus.system.devices) s.bus.system.time.script
  pub lines : HasSettledLines s.bus.system
