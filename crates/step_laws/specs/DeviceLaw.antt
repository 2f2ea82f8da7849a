-- When the word of a device changes in a step (profile).
use Rattle.std.specs.Prelude.{◌≡◌, ℕ, ◌+◌, ◌/◌, Bool, false, not, ◌&&◌, ◌||◌, ◌==◌, if◌then◌else◌, is_some, List}
use Rattle.std.specs.Prelude.{Option, Some, None}
use Rattle.std.specs.List.{list_any}
use Rattle.devices.specs.declared.device.Poke.{Poke}
use Rattle.devices.specs.Devices.{DeviceWords, Word, word_at}
use Rattle.platform.specs.declared.access.DecidedAccess.{DecidedAccess}
use Rattle.platform.specs.declared.access.Kind.{Kind}
use Rattle.platform.specs.declared.event.Event.{Event}
use Rattle.platform.specs.Events.{is_access_with}
use Rattle.platform.specs.Kinds.{is_load, is_store}
use Rattle.platform.specs.System.{pokes_of}
use Rattle.platform.specs.Time.{events_at}
use Rattle.reference.specs.State.{State}
use Rattle.reference.specs.Step.{step}

-- whether two addresses are of one word
abbrev pub are_of_word : ℕ → ℕ → Bool
are_of_word b a = b / 4 == a / 4

-- whether a poke, if there is one, names the word at an address
abbrev pub names : Option Poke → ℕ → Bool
names None a = false
names (Some p) a = are_of_word p.address a

-- whether a load from, or a store to, the word of a device pokes the word at an address
abbrev pub pokes_by : Option Word → Kind → ℕ → Bool
pokes_by None kind a = false
pokes_by (Some w) kind a =
    (is_load kind || is_store kind) && names (if is_store kind then w.device.store_poke else w.device.load_poke) a

-- whether an access was carried out that stores to the word at an address, or pokes it, where these are the devices
abbrev pub reaches : List DeviceWords → DecidedAccess → ℕ → Bool
reaches ds d a =
    not (is_some d.refused)
    && ((is_store d.access.kind && are_of_word d.access.address a)
    || pokes_by (word_at ds d.access.address) d.access.kind a)

-- whether one of these events is such an access
abbrev pub are_reaching : List DeviceWords → List Event → ℕ → Bool
are_reaching ds events a = list_any (λ event. is_access_with (λ d. reaches ds d a) event.what) events

-- whether one of these pokes names the word at an address
abbrev pub are_naming : List Poke → ℕ → Bool
are_naming ps a = list_any (λ p. are_of_word p.address a) ps

-- a step leaves what is stored in the word at an address, where no poke of its tick names the word, and no load or
-- store of the step that was carried out stores to it or pokes it
abbrev pub WordStays : State → ℕ → Type 0
WordStays s a =
    are_naming (pokes_of (events_at (s.bus.system.time.ticks + 1) s.bus.system.time.script)) a ≡ false →
    are_reaching s.bus.system.devices (step s).events a ≡ false →
    word_at (step s).state.bus.system.devices a ≡ word_at s.bus.system.devices a
