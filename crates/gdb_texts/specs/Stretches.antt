-- What is where on a board: flash, RAM, the second RAM, devices, the device window and the Private Peripheral Bus.
use Rattle.std.specs.Prelude.{ℕ, ◌+◌, ◌-◌, min, max, nat_lt, nat_le, Bool, true, false, not, ◌&&◌, ◌||◌}
use Rattle.std.specs.Prelude.{if◌then◌else◌, List, [], ◌∷◌, Option, Some, None, option_map, codes}
use Rattle.devices.specs.declared.device.Device.{Device}
use Rattle.platform.specs.Boards.{Numbers, RamSpan}
use Rattle.platform.specs.Map.{ram_base}
use Rattle.gdb_texts.specs.declared.stretch.MemoryKind.{MemoryKind}
use Rattle.gdb_texts.specs.declared.stretch.MemoryKind.TheVariants.{Flash, Ram, Registers}
use Rattle.gdb_texts.specs.declared.stretch.Stretch.{Stretch}

-- the device window and the Private Peripheral Bus
abbrev pub window : Stretch
window = record { base = 0x4000_0000; end = 0x4000_1000; kind = Registers }

abbrev pub ppb : Stretch
ppb = record { base = 0xE000_0000; end = 0xE010_0000; kind = Registers }

abbrev pub flash_of : Numbers → Stretch
flash_of board = record { base = board.flash_base; end = board.flash_base + board.flash_size; kind = Flash }

abbrev pub ram_of : Numbers → Stretch
ram_of board = record { base = ram_base; end = ram_base + board.ram_size; kind = Ram }

abbrev pub second_of : RamSpan → Stretch
second_of span = record { base = span.base; end = span.base + span.size; kind = Ram }

abbrev pub device_of : Device → Stretch
device_of d = record { base = d.base; end = d.base + d.size; kind = Registers }

-- how many addresses there are from one on to another; no stretch has all of them
abbrev pub distance : ℕ → ℕ → ℕ
distance base end = min (end - base) 0xFFFF_FFFF

abbrev pub size_of : Stretch → ℕ
size_of s = distance s.base s.end

-- a stretch, if there is one, put among others, which are in the order of their addresses
abbrev pub inserted : Option Stretch → List Stretch → List Stretch
inserted None others = others
inserted (Some s) [] = s ∷ []
inserted (Some s) (t ∷ others) = if nat_lt s.base t.base then s ∷ t ∷ others else t ∷ inserted (Some s) others

-- those of devices
abbrev pub with_devices : List Device → List Stretch → List Stretch
with_devices [] others = others
with_devices (d ∷ ds) others = with_devices ds (inserted (Some (device_of d)) others)

-- what a board has beside some stretches, in the order of the addresses; devices may overlap
abbrev pub placed : Numbers → List Device → List Stretch → List Stretch
placed board devices others = with_devices devices (inserted (option_map second_of board.second_ram) others)

-- ---- stretches that touch or overlap are one

abbrev pub are_alike : MemoryKind → MemoryKind → Bool
are_alike Flash Flash = true
are_alike Flash Ram = false
are_alike Flash Registers = false
are_alike Ram Flash = false
are_alike Ram Ram = true
are_alike Ram Registers = false
are_alike Registers Flash = false
are_alike Registers Ram = false
are_alike Registers Registers = true

-- whether a stretch is one with the next: it touches or overlaps it, and where kinds count it is of the same kind
abbrev pub meets : Bool → Stretch → Stretch → Bool
meets by_kind s t = nat_le t.base s.end && (not by_kind || are_alike s.kind t.kind)

-- a stretch and those after it
abbrev pub joined_onto : Bool → Stretch → List Stretch → List Stretch
joined_onto by_kind s [] = s ∷ []
joined_onto by_kind s (t ∷ others) =
    if meets by_kind s t then joined_onto by_kind (record s { end = max s.end t.end }) others
    else s ∷ joined_onto by_kind t others

-- likewise after a stretch, if there is one
abbrev pub joined_after : Bool → Option Stretch → List Stretch → List Stretch
joined_after by_kind None [] = []
joined_after by_kind None (t ∷ others) = joined_onto by_kind t others
joined_after by_kind (Some s) others = joined_onto by_kind s others

abbrev pub joined : Bool → List Stretch → List Stretch
joined by_kind stretches = joined_after by_kind None stretches

-- the longest stretches of one kind, and the longest ones that GDB reads and writes as RAM, in the order of their
-- addresses
unfoldable pub all_of : Numbers → List Device → List Stretch
all_of board devices =
    joined true (placed board devices (flash_of board ∷ ram_of board ∷ window ∷ ppb ∷ []))

unfoldable pub rams_of : Numbers → List Device → List Stretch
rams_of board devices = joined false (placed board devices (ram_of board ∷ window ∷ ppb ∷ []))

-- what may be done there (LLDB's extensions of the protocol, qMemoryRegionInfo)
abbrev pub permissions : MemoryKind → List ℕ
permissions Flash = codes "permissions:rx;"
permissions Ram = codes "permissions:rwx;"
permissions Registers = codes "permissions:rw;"
