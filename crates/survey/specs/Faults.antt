-- The faults that were recorded: the first 64 that differ, and the number of all.
use Rattle.std.specs.Prelude.{ℕ, ◌+◌, ◌-◌, Bool, true, false, not, ◌&&◌, ◌==◌, nat_lt, if◌then◌else◌, List, Option}
use Rattle.std.specs.Prelude.{Some, None, slice_set, slice_index_or}
use Rattle.instruction_set.specs.Sizes.{bytes_in}
use Rattle.platform.specs.declared.access.Cause.{Cause}
use Rattle.platform.specs.declared.access.DecidedAccess.{DecidedAccess}
use Rattle.platform.specs.declared.event.RecordedFault.{RecordedFault}
use Rattle.survey.specs.declared.fault.Fault.{Fault}
use Rattle.survey.specs.Counts.{one_more, place_of_access}

-- The faults so far. Of the 64 places of `rows` the first `used` are rows.
pub record Faults : Type 0 where
  pub rows : List Fault
  pub used : ℕ
  -- how many faults were recorded
  pub number : ℕ
  -- whether a fault came for which there was no row
  pub missed : Bool
  -- the access that the step that is being counted had refused since its last fault, if it had one refused
  pub refused : Option DecidedAccess

-- how many rows there are at most
abbrev pub max_rows : ℕ
max_rows = 64

-- the same status registers, and the same exception that became pending
abbrev pub is_same_record : RecordedFault → RecordedFault → Bool
is_same_record fault other =
    ((fault.cfsr == other.cfsr) && (fault.hfsr == other.hfsr)) && (fault.exception == other.exception)

-- the same access: rule, privilege, kind, outcome, address and size
abbrev pub is_same_access : DecidedAccess → DecidedAccess → Bool
is_same_access d other =
    ((d.access.address == other.access.address) && (bytes_in d.access.size == bytes_in other.access.size))
    && (place_of_access d == place_of_access other)

-- the same access, or none
abbrev pub is_same_refused : Option DecidedAccess → Option DecidedAccess → Bool
is_same_refused None None = true
is_same_refused None (Some other) = false
is_same_refused (Some d) None = false
is_same_refused (Some d) (Some other) = is_same_access d other

-- the same fault, the tick and the number of times apart
abbrev pub is_same : Fault → Fault → Bool
is_same f other =
    ((f.pc == other.pc) && is_same_refused f.refused other.refused) && is_same_record f.recorded other.recorded

-- after an access of a step, by what refused it: a refused one is that of the fault that the step records next
abbrev pub with_outcome : Faults → DecidedAccess → Option Cause → Faults
with_outcome f d None = f
with_outcome f d (Some cause) = record f { refused = Some d }

abbrev pub with_decided : Faults → DecidedAccess → Faults
with_decided f d = with_outcome f d d.refused

-- the row that came last, of those that are used; the first place where none is
abbrev pub last_row : Faults → Fault → Fault
last_row f other = slice_index_or f.rows (f.used - 1) other

-- whether a fault is the one before it again, the tick apart: that one has the last row, unless a fault had none
abbrev pub repeats : Faults → Fault → Bool
repeats f fault = (not f.missed && nat_lt 0 f.used) && is_same (last_row f fault) fault

-- the last row counts once more
abbrev pub repeated : Faults → Fault → Faults
repeated f last =
    record f { rows = slice_set f.rows (f.used - 1) (record last { times = one_more last.times }) }

-- a new row, where there is a place for it; without one the fault has no row, and none counts from then on
abbrev pub appended : Faults → Fault → Faults
appended f fault =
    if nat_lt f.used max_rows then record f { rows = slice_set f.rows f.used fault; used = f.used + 1 }
    else record f { missed = true }

-- with one more fault, counted
abbrev pub with_row : Faults → Fault → Faults
with_row f fault =
    let counted = record f { number = one_more f.number; refused = None } in
    if repeats f fault then repeated counted (last_row f fault) else appended counted fault

-- a fault that a step at `pc` recorded, after it had this access refused or none
abbrev pub fault_at : ℕ → ℕ → Option DecidedAccess → RecordedFault → Fault
fault_at pc tick refused recorded =
    record { tick = tick; pc = pc; refused = refused; recorded = recorded; times = 1 }

-- after a fault that a step at `pc` recorded: its access is the one that the step had refused before it
abbrev pub with_fault : ℕ → Faults → ℕ → RecordedFault → Faults
with_fault pc f tick recorded = with_row f (fault_at pc tick f.refused recorded)

-- after a fault that was recorded, if there is one
abbrev pub with_any_fault : ℕ → Faults → ℕ → Option RecordedFault → Faults
with_any_fault pc f tick None = f
with_any_fault pc f tick (Some recorded) = with_fault pc f tick recorded

-- after the last event of a step: what it had refused is that of no later fault
abbrev pub with_end : Faults → Faults
with_end f = record f { refused = None }
