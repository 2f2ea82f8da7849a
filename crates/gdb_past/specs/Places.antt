-- What is kept of a machine's past (profile).
use Rattle.reference.specs.State.{State}
use Rattle.std.specs.Prelude.{◌≡◌, ℕ, ◌-◌, nat_lt, Bool, if◌then◌else◌, List, [], ◌∷◌, length, slice_index_or, take}
use Rattle.devices.specs.declared.device.Device.{Device}
use Rattle.devices.specs.Devices.{DeviceWords}
use Rattle.platform.specs.Memory.{Memory}

pub record Past : Type 0 where
  -- the state before the first step of the session
  pub start : State
  -- the states to which a session can go back, the last one first: after the last write at each tick at which something
  -- was written, and before them the state before the first step
  pub marks : List State
  -- how many marks there is room for
  pub room : ℕ

-- a mark, by its number from the last one, and m where there are fewer
abbrev pub mark_of : Past → ℕ → State → State
mark_of past number m = slice_index_or past.marks number m

abbrev pub tick_of : State → ℕ
tick_of s = s.bus.system.time.ticks

-- before the first step, with room for so many marks
abbrev pub past_from : ℕ → State → Past
past_from room s = record { start = s; marks = s ∷ []; room = room }

-- after the session begins anew
abbrev pub past_anew : Past → Past
past_anew past = past_from past.room past.start

-- the marks before a tick
abbrev pub below : ℕ → List State → List State
below tick [] = []
below tick (m ∷ marks) = if nat_lt (tick_of m) tick then m ∷ marks else below tick marks

-- after a write, which left this state: of the marks before it the last ones stay, as far as there is room
abbrev pub marked : Past → State → Past
marked past s = record past { marks = s ∷ take (past.room - 1) (below (tick_of s) past.marks) }

-- where a block of memory is, and whether a store may change it
pub record Extent : Type 0 where
  pub base : ℕ
  pub size : ℕ
  pub is_writable : Bool

abbrev pub extents : Memory → List Extent
extents [] = []
extents (b ∷ m) =
    record { base = b.base; size = length b.bytes; is_writable = b.is_writable } ∷ extents m

abbrev pub devices_in : List DeviceWords → List Device
devices_in [] = []
devices_in (d ∷ ds) = d.device ∷ devices_in ds

-- what stays of a machine: the blocks of its memory, and its devices
pub record Board : Type 0 where
  pub extents : List Extent
  pub devices : List Device

abbrev pub board_of : State → Board
board_of s = record { extents = extents s.bus.memory; devices = devices_in s.bus.system.devices }

-- two states of the same machine
abbrev pub AreOfOneMachine : State → State → Type 0
AreOfOneMachine s u = board_of s ≡ board_of u
