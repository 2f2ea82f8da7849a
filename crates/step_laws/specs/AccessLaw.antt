-- What holds of the accesses of a step, whatever the state (ARM DDI 0403, MemA[], "Fault behavior").
use Rattle.std.specs.Prelude.{◌≡◌, ◌⊎◌, ℕ, ◌+◌, nat_le, nat_lt, Bool, false, not, ◌&&◌, is_some, bit_and, List, [], ◌∷◌}
use Rattle.std.specs.Prelude.{◌++◌, All, Some}
use Rattle.std.specs.List.{list_any}
use Rattle.instruction_set.specs.Sizes.{bytes_in}
use Rattle.platform.specs.declared.access.Access.{Access}
use Rattle.platform.specs.declared.access.Cause.{Cause}
use Rattle.platform.specs.declared.access.DecidedAccess.{DecidedAccess}
use Rattle.platform.specs.declared.access.Rule.{Rule}
use Rattle.platform.specs.declared.event.Event.{Event}
use Rattle.platform.specs.declared.event.EventKind.{EventKind}
use Rattle.platform.specs.declared.event.EventKind.TheVariants.{Accessed, FaultRecorded}
use Rattle.platform.specs.declared.event.RecordedFault.{RecordedFault}
use Rattle.platform.specs.declared.exception.TheConstants.{HARD_FAULT}
use Rattle.platform.specs.declared.fault_status.FaultEffect.{FaultEffect}
use Rattle.platform.specs.Events.{is_access_with, is_refused}
use Rattle.reference.specs.Faults.{fault_of}
use Rattle.platform.specs.Kinds.{is_write}
use Rattle.platform.specs.Memory.{Agree, Memory}

-- ---- refused accesses

-- no access is refused
abbrev pub NoneRefused : List Event → Type 0
NoneRefused events = All (λ event. is_refused event.what ≡ false) events

-- a fault line is of a fault of the table: its bits are set in CFSR and HFSR, and what became pending is its exception,
-- or HardFault in its place; in lockup nothing did
pub record IsFaultLineOf (effect : FaultEffect) (fault : RecordedFault) : Type 0 where
  pub exception : (fault.exception ≡ effect.exception) ⊎ ((fault.exception ≡ HARD_FAULT) ⊎ (fault.exception ≡ 0))
  pub cfsr : bit_and fault.cfsr effect.cfsr ≡ effect.cfsr
  pub hfsr : bit_and fault.hfsr effect.hfsr ≡ effect.hfsr

-- the last access is refused, and the last event is the line of its fault
pub record EndsRefused (events : List Event) : Type 0 where
  pub before : List Event
  pub refused : Event
  pub last : Event
  pub events_are : events ≡ before ++ refused ∷ last ∷ []
  pub none_refused : NoneRefused before
  pub access : Access
  pub rule : Rule
  pub cause : Cause
  pub is_refused : refused.what ≡ Accessed (record { access = access; rule = rule; refused = Some cause })
  pub fault : RecordedFault
  pub is_fault : last.what ≡ FaultRecorded fault
  pub is_of_access : IsFaultLineOf (fault_of access cause) fault

-- at most one access is refused: it is the last access, and the next event, which is the last, is the line of its fault
abbrev pub OneRefusal : List Event → Type 0
OneRefusal events = NoneRefused events ⊎ EndsRefused events

-- ---- bytes

-- whether an access was a store or a push that was carried out, and wrote the byte at an address
abbrev pub writes : DecidedAccess → ℕ → Bool
writes a address =
    is_write a.access.kind && not (is_some a.refused)
    && (nat_le a.access.address address && nat_lt address (a.access.address + bytes_in a.access.size))

-- whether an event is such an access
abbrev pub covers : EventKind → ℕ → Bool
covers what address = is_access_with (λ a. writes a address) what

-- whether one of the events is
abbrev pub are_covering : List Event → ℕ → Bool
are_covering events address = list_any (λ event. covers event.what address) events

-- the blocks of memory stay where they are, and their bytes change only where a store or a push of these events that
-- was carried out covers them
abbrev pub OnlyCovered : Memory → Memory → List Event → Type 0
OnlyCovered old new events = Agree (λ address. not (are_covering events address)) old new
