-- What holds of memory and the System Control Space at the start, after each step and after each value that `place`
-- puts. It's proved in the crate `state_laws`, and `Invariant` of `reference` has it for the whole state.
use Rattle.std.specs.Prelude.{◌≡◌, ℕ, ◌+◌, ◌^◌, ◌<◌, ◌≤◌, Bool, true, false, List, [], ◌∷◌, length, slice_index}
use Rattle.std.specs.Prelude.{Option, Some, None}
use Rattle.devices.specs.declared.device.Device.{Device}
use Rattle.devices.specs.declared.device.Line.{Line}
use Rattle.devices.specs.Devices.{DeviceWords}
use Rattle.platform.specs.declared.exception.TheConstants.{EXCEPTIONS, MAX_INTERRUPTS}
use Rattle.platform.specs.Boards.{Described, IsScript, IsScriptFrom, is_flash, is_interrupt_count, is_region_count}
use Rattle.platform.specs.Boards.{is_second_ram_or_none, is_size}
use Rattle.platform.specs.Map.{is_for_memory}
use Rattle.platform.specs.Memory.{Block, Memory, holds, is_in_memory}
use Rattle.platform.specs.Priorities.{Nvic, is_in, is_exception, can_be_disabled, implemented_bits}
use Rattle.platform.specs.Regions.{IsSound}
use Rattle.platform.specs.System.{System}
use Rattle.platform.specs.Time.{Time, SysTick, last_tick}

-- ---- the parts

-- the clock isn't past its last tick
abbrev pub IsWithinClock : Time → Type 0
IsWithinClock t = t.ticks ≤ last_tick

-- SYST_RVR and SYST_CVR have 24 bits
pub record HasTimerBits (t : SysTick) : Type 0 where
  pub reload : t.reload < 2 ^ 24
  pub current : t.current < 2 ^ 24

-- a priority byte with no bits set but those that the board keeps
pub record IsPriorityByte (bits b : ℕ) : Type 0 where
  pub byte : b < 2 ^ 8
  pub kept : implemented_bits bits b ≡ b

-- there is a priority byte for each number, the priority bytes and BASEPRI have no bit but the top ones that the board
-- keeps, and PRIGROUP has three bits
pub record KeepsTopBits (n : Nvic) : Type 0 where
  pub places : length n.priorities ≡ EXCEPTIONS
  pub priorities : (x : ℕ) → IsPriorityByte n.priority_bits (slice_index n.priorities x)
  pub basepri : IsPriorityByte n.priority_bits n.masks.basepri
  pub group : n.group < 2 ^ 3

-- a set has an element for each number below EXCEPTIONS, and only numbers that pass the test are in it
pub record HasOnly (test : ℕ → Bool) (set : List Bool) : Type 0 where
  pub places : length set ≡ EXCEPTIONS
  pub members : (x : ℕ) → is_in set x ≡ true → test x ≡ true

-- only exceptions of the board are pending or active, only those that can be disabled are in the set of the enabled
-- ones, and the board has no more interrupts than there can be
pub record HasExceptionsOfBoard (n : Nvic) : Type 0 where
  pub pending : HasOnly (is_exception n.interrupts) n.pending
  pub enabled : HasOnly (can_be_disabled n.interrupts) n.enabled
  pub active : HasOnly (is_exception n.interrupts) n.active
  pub interrupts : n.interrupts ≤ MAX_INTERRUPTS

-- the events that are still to come are a script, later than the clock, of a board with this number of interrupts, and
-- `high` has MAX_INTERRUPTS elements
pub record IsAhead (interrupts : ℕ) (t : Time) : Type 0 where
  pub script : IsScriptFrom interrupts (t.ticks + 1) t.script
  pub high : length t.high ≡ MAX_INTERRUPTS

-- no address is in the block and in one of these
abbrev pub IsApartFrom : Block → Memory → Type 0
IsApartFrom b m = (a : ℕ) → holds b a 1 ≡ true → is_in_memory m a 1 ≡ false

-- each block is where memory may be, and no two have an address in common
abbrev pub IsLaidOut : Memory → Type 0
IsLaidOut [] = Unit {0}
IsLaidOut (b ∷ m) = (is_for_memory b.base (length b.bytes) ≡ true) × IsApartFrom b m × IsLaidOut m

-- the lines of devices are interrupts of the board
abbrev pub HasLineOfBoard : ℕ → Option Line → Type 0
HasLineOfBoard interrupts None = Unit {0}
HasLineOfBoard interrupts (Some line) = line.number < interrupts

abbrev pub HaveLinesOfBoard : ℕ → List Device → Type 0
HaveLinesOfBoard interrupts [] = Unit {0}
HaveLinesOfBoard interrupts (d ∷ ds) = HasLineOfBoard interrupts d.line × HaveLinesOfBoard interrupts ds

-- the devices, without what is stored in their words
abbrev pub table_of : List DeviceWords → List Device
table_of [] = []
table_of (d ∷ ds) = d.device ∷ table_of ds

-- ---- together

-- what holds of the System Control Space
pub record SystemInvariant (s : System) : Type 0 where
  pub clock : IsWithinClock s.time
  pub timer : HasTimerBits s.time.systick
  pub priorities : KeepsTopBits s.nvic
  pub sets : HasExceptionsOfBoard s.nvic
  pub script : IsAhead s.nvic.interrupts s.time
  -- the MPU's registers are as `IsSound` says
  pub regions : IsSound s.mpu
  pub devices : HaveLinesOfBoard s.nvic.interrupts (table_of s.devices)

-- ---- the board that it needs

-- a board whose flash, RAMs, number of interrupts and number of regions are in range, and whose script is sorted and
-- names only interrupts that the board has, as its devices do
pub record IsBoard (board : Described) : Type 0 where
  pub flash : is_flash board.numbers.flash_base board.numbers.flash_size ≡ true
  pub ram : is_size board.numbers.ram_size ≡ true
  pub second_ram : is_second_ram_or_none board.numbers board.numbers.second_ram ≡ true
  pub interrupts : is_interrupt_count board.numbers.interrupts ≡ true
  pub regions : is_region_count board.numbers.regions ≡ true
  pub script : IsScript board.numbers.interrupts board.script
  pub devices : HaveLinesOfBoard board.numbers.interrupts board.devices
