-- What a board is (profile): its numbers, each with its range, and the script of what happens on its interrupts. What
-- the text of a board means is defined in the crate `board`, over the `toml` crate's meaning of a document.
use Rattle.std.specs.Prelude.{ℕ, ◌+◌, ◌%◌, ◌<◌, ◌≤◌, Bool, ◌&&◌, ◌||◌, false, true, nat_le, ◌==◌}
use Rattle.std.specs.Prelude.{List, [], ◌∷◌, replicate, Option, Some, None, option_map}
use Rattle.devices.specs.declared.device.Device.{Device}
use Rattle.platform.specs.declared.board.Layout.{Layout}
use Rattle.platform.specs.declared.exception.TheConstants.{MAX_INTERRUPTS}
use Rattle.platform.specs.declared.script.ScriptedEvent.{ScriptedEvent}
use Rattle.platform.specs.declared.script.Signal.{Signal}
use Rattle.platform.specs.declared.script.Signal.TheVariants.{Rise, Fall, Pulse, Nmi, Poke}
use Rattle.platform.specs.declared.board.SecondRam.{SecondRam}
use Rattle.platform.specs.Map.{are_apart, is_for_memory, ram_base}
use Rattle.platform.specs.Memory.{Block, Memory}
use Rattle.platform.specs.Regions.{region_number}
use Rattle.platform.specs.Time.{last_tick}

-- where the second RAM of a board begins, and how many bytes it has
pub record RamSpan : Type 0 where
  pub base : ℕ
  pub size : ℕ

-- the numbers of a board
pub record Numbers : Type 0 where
  pub flash_base : ℕ
  pub flash_size : ℕ
  pub ram_size : ℕ
  pub second_ram : Option RamSpan
  pub priority_bits : ℕ
  pub interrupts : ℕ
  pub regions : ℕ

-- a board: its numbers, its devices and its script, both in the order of the text
pub record Described : Type 0 where
  pub numbers : Numbers
  pub devices : List Device
  pub script : List ScriptedEvent

abbrev pub span_of : SecondRam → RamSpan
span_of second = record { base = second.base; size = second.size }

-- the numbers of a layout
abbrev pub numbers_of : Layout → Numbers
numbers_of layout = record {
  flash_base = layout.flash_base;
  flash_size = layout.flash_size;
  ram_size = layout.ram_size;
  second_ram = option_map span_of layout.second_ram;
  priority_bits = layout.priority_bits;
  interrupts = layout.interrupts;
  regions = region_number layout.regions;
}

-- flash, RAM and the second RAM come in blocks of 1,024 bytes
abbrev pub block : ℕ
block = 1024

-- flash and RAM have a mebibyte each at most
abbrev pub max_bytes : ℕ
max_bytes = 0x10_0000

-- the second RAM has 16 mebibytes at most
abbrev pub max_second_bytes : ℕ
max_second_bytes = 0x100_0000

abbrev pub max_events : ℕ
max_events = 65536

-- the earliest tick that an event may have
abbrev pub first_tick : ℕ
first_tick = 1

-- a number of bytes that is a multiple of `block`: a whole number of blocks
abbrev pub is_whole_blocks : ℕ → Bool
is_whole_blocks bytes = bytes % block == 0

-- a size of flash or RAM
abbrev pub is_size : ℕ → Bool
is_size bytes = (is_whole_blocks bytes && nat_le block bytes) && nat_le bytes max_bytes

-- flash of a size at a base, which ends where RAM begins, or before
abbrev pub is_flash : ℕ → ℕ → Bool
is_flash base bytes = is_size bytes && nat_le (base + bytes) ram_base

-- a size of a second RAM
abbrev pub is_second_size : ℕ → Bool
is_second_size bytes = (is_whole_blocks bytes && nat_le block bytes) && nat_le bytes max_second_bytes

-- a second RAM has no byte of flash and none of RAM
abbrev pub is_apart : Numbers → RamSpan → Bool
is_apart board second =
    are_apart board.flash_base board.flash_size second.base second.size
    && are_apart ram_base board.ram_size second.base second.size

-- a second RAM of a board
abbrev pub is_second_ram : Numbers → RamSpan → Bool
is_second_ram board second =
    (is_whole_blocks second.base && is_second_size second.size)
    && (is_for_memory second.base second.size && is_apart board second)

-- the second RAM of a board, if it has one
abbrev pub is_second_ram_or_none : Numbers → Option RamSpan → Bool
is_second_ram_or_none board None = true
is_second_ram_or_none board (Some second) = is_second_ram board second

-- how many bits of a priority are kept
abbrev pub is_priority_bits : ℕ → Bool
is_priority_bits bits = nat_le 3 bits && nat_le bits 8

-- a number of interrupts
abbrev pub is_interrupt_count : ℕ → Bool
is_interrupt_count interrupts = nat_le interrupts MAX_INTERRUPTS

-- a number of MPU regions
abbrev pub is_region_count : ℕ → Bool
is_region_count regions = (regions == 8) || (regions == 16)

-- how many regions there are where the text doesn't say it
abbrev pub default_regions : ℕ
default_regions = 8

-- a tick in which an event can apply
abbrev pub is_tick : ℕ → Bool
is_tick tick = nat_le first_tick tick && nat_le tick last_tick

-- a signal is on an interrupt that the board has, or it is NMI
abbrev pub IsOfBoard : ℕ → Signal → Type 0
IsOfBoard interrupts (Rise interrupt) = interrupt < interrupts
IsOfBoard interrupts (Fall interrupt) = interrupt < interrupts
IsOfBoard interrupts (Pulse interrupt) = interrupt < interrupts
IsOfBoard interrupts Nmi = Unit {0}
IsOfBoard interrupts (Poke p) = Unit {0}

-- the events of a script that begins at the tick `before` or later: none is earlier than the event in front of it, none
-- is later than the clock's last tick, and each is on an interrupt that the board has, or is NMI
abbrev pub IsScriptFrom : ℕ → ℕ → List ScriptedEvent → Type 0
IsScriptFrom interrupts before [] = Unit {0}
IsScriptFrom interrupts before (event ∷ events) =
    (before ≤ event.at) × (event.at ≤ last_tick) × IsOfBoard interrupts event.what
    × IsScriptFrom interrupts event.at events

abbrev pub IsScript : ℕ → List ScriptedEvent → Type 0
IsScript interrupts events = IsScriptFrom interrupts first_tick events

-- ---- memory before a start

-- a RAM where nothing was loaded: its bytes are 0
abbrev pub blank_ram : ℕ → ℕ → Block
blank_ram base size = record { base = base; bytes = replicate size 0; is_writable = true }

-- the second RAM of a board, if it has one
abbrev pub blank_second : Option RamSpan → Memory
blank_second None = []
blank_second (Some second) = blank_ram second.base second.size ∷ []

-- flash is 0xFF and RAM is 0 where nothing was loaded
abbrev pub blank : Numbers → Memory
blank board =
    record { base = board.flash_base; bytes = replicate board.flash_size 0xFF; is_writable = false }
    ∷ blank_ram ram_base board.ram_size ∷ blank_second board.second_ram
