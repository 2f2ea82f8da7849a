-- When the registers of the MPU stay as they are.
use Rattle.std.specs.Prelude.{◌≡◌, Bool, false, not, ◌&&◌, is_some, List}
use Rattle.std.specs.List.{list_any}
use Rattle.platform.specs.declared.access.DecidedAccess.{DecidedAccess}
use Rattle.platform.specs.declared.event.Event.{Event}
use Rattle.platform.specs.declared.event.EventKind.{EventKind}
use Rattle.platform.specs.Events.{is_access_with}
use Rattle.platform.specs.Kinds.{is_write}
use Rattle.platform.specs.Map.{is_in_ppb}
use Rattle.reference.specs.State.{State}
use Rattle.reference.specs.Step.{step}

-- whether an access was a write to the Private Peripheral Bus, which has the registers of the MPU, that was carried out
abbrev pub is_system_write : DecidedAccess → Bool
is_system_write d = is_write d.access.kind && (is_in_ppb d.access.address && not (is_some d.refused))

-- whether an event is such a write
abbrev pub writes_system : EventKind → Bool
writes_system what = is_access_with is_system_write what

-- whether one of these events is
abbrev pub some_writes_system : List Event → Bool
some_writes_system events = list_any (λ event. writes_system event.what) events

-- a step none of whose events is such a write leaves the registers of the MPU as they are
abbrev pub RegionsStay : Type 0
RegionsStay =
    (s : State) → some_writes_system (step s).events ≡ false → (step s).state.bus.system.mpu ≡ s.bus.system.mpu
