-- How the devices of a board and its script go together (profile).
use Rattle.std.specs.Prelude.{◌≡◌, ℕ, Bool, true, false, not, ◌&&◌, ◌||◌, List, [], ◌∷◌, Option, Some, None, unwrap_or}
use Rattle.devices.specs.declared.device.Device.{Device}
use Rattle.devices.specs.declared.device.Line.{Line}
use Rattle.devices.specs.Lines.{is_line_of}
use Rattle.devices.specs.Table.{device_at}
use Rattle.platform.specs.declared.script.ScriptedEvent.{ScriptedEvent}
use Rattle.platform.specs.declared.script.Signal.{Signal}
use Rattle.platform.specs.declared.script.Signal.TheVariants.{Rise, Fall, Pulse, Nmi, Poke}

-- ---- which interrupts devices drive

-- whether one of these devices drives an interrupt
abbrev pub is_driven : List Device → ℕ → Bool
is_driven [] interrupt = false
is_driven (d ∷ ds) interrupt = is_line_of d.line interrupt || is_driven ds interrupt

-- none of these devices drives the interrupt of a line, if there is one
abbrev pub IsUndriven : List Device → Option Line → Type 0
IsUndriven ds None = Unit {0}
IsUndriven ds (Some line) = is_driven ds line.number ≡ false

-- no two devices drive the same interrupt
abbrev pub DriveApart : List Device → Type 0
DriveApart [] = Unit {0}
DriveApart (d ∷ ds) = IsUndriven ds d.line × DriveApart ds

-- ---- which words the clock doesn't change

-- whether a device was found, and its words don't count
abbrev pub is_steady : Option Device → Bool
is_steady None = false
is_steady (Some d) = not d.counts

-- the address of the word whose content the bits of the word at an address follow, where that is its device
abbrev pub followed_by : Option Device → ℕ → ℕ
followed_by None a = a
followed_by (Some d) a = unwrap_or d.of a

-- whether the word at an address doesn't count, nor the word that its bits follow: so its value doesn't depend on the
-- clock
abbrev pub has_steady_value : List Device → ℕ → Bool
has_steady_value ds a = is_steady (device_at ds a) && is_steady (device_at ds (followed_by (device_at ds a) a))

-- the two words that the level of a device's line depends on, if it has one, have steady values
abbrev pub HasSteadyLine : List Device → Device → Option Line → Type 0
HasSteadyLine ds d None = Unit {0}
HasSteadyLine ds d (Some line) = (has_steady_value ds d.base ≡ true) × (has_steady_value ds line.enable ≡ true)

-- likewise of each of some devices of a board
abbrev pub HaveSteadyLines : List Device → List Device → Type 0
HaveSteadyLines ds [] = Unit {0}
HaveSteadyLines ds (d ∷ others) = HasSteadyLine ds d d.line × HaveSteadyLines ds others

-- ---- what the script leaves alone

-- whether a signal comes on an interrupt that a device drives
abbrev pub is_on_driven : List Device → Signal → Bool
is_on_driven ds (Rise interrupt) = is_driven ds interrupt
is_on_driven ds (Fall interrupt) = is_driven ds interrupt
is_on_driven ds (Pulse interrupt) = is_driven ds interrupt
is_on_driven ds Nmi = false
is_on_driven ds (Poke p) = false

-- no event of a script comes on an interrupt that a device drives
abbrev pub LeavesDriven : List Device → List ScriptedEvent → Type 0
LeavesDriven ds [] = Unit {0}
LeavesDriven ds (e ∷ events) = (is_on_driven ds e.what ≡ false) × LeavesDriven ds events

-- ---- together

-- no two devices drive the same interrupt, the level of no line depends on the clock, and no event of the script comes
-- on an interrupt that a device drives
pub record AreWired (ds : List Device) (events : List ScriptedEvent) : Type 0 where
  pub apart : DriveApart ds
  pub steady : HaveSteadyLines ds ds
  pub script : LeavesDriven ds events
