-- The address space (ARM DDI 0403, "The system address map"; the addresses of RAM and of the device window are this
-- project's choice).
use Rattle.std.specs.Prelude.{ℕ, ◌+◌, ◌/◌, ◌^◌, Bool, ◌&&◌, ◌||◌, nat_le, ◌==◌}

-- RAM begins here; flash ends here, or before
abbrev pub ram_base : ℕ
ram_base = 0x2000_0000

-- `bytes` bytes from `base` on and `more` bytes from `other` on share no address
abbrev pub are_apart : ℕ → ℕ → ℕ → ℕ → Bool
are_apart base bytes other more = nat_le (base + bytes) other || nat_le (other + more) base

-- whether a block of memory may be here: where the default memory map has memory, which is below 0x40000000 (the
-- regions Code and SRAM) and from 0x60000000 to 0x9FFFFFFF (the two regions RAM)
abbrev pub is_for_memory : ℕ → ℕ → Bool
is_for_memory base bytes =
    nat_le (base + bytes) 0x4000_0000 || (nat_le 0x6000_0000 base && nat_le (base + bytes) 0xA000_0000)

-- the device window: 0x40000000 to 0x40000FFF
abbrev pub is_in_window : ℕ → Bool
is_in_window a = a / 2 ^ 12 == 0x4_0000

-- its registers: a word stored to OUT sends its low byte to the console, a word loaded from TICK is the clock's low
-- word
abbrev pub out_register : ℕ
out_register = 0x4000_0000

abbrev pub tick_register : ℕ
tick_register = 0x4000_0004

-- the System region, from which nothing is fetched, begins here
abbrev pub system_base : ℕ
system_base = 0xE000_0000

-- the Private Peripheral Bus: 0xE0000000 to 0xE00FFFFF
abbrev pub is_in_ppb : ℕ → Bool
is_in_ppb a = a / 2 ^ 20 == 0xE00

-- where the default memory map never executes: the regions Peripheral and Device, and the System region
abbrev pub is_execute_never : ℕ → Bool
is_execute_never a = (a / 2 ^ 29 == 2) || nat_le 5 (a / 2 ^ 29)

-- where an access can have a side effect: the device window and the Private Peripheral Bus and, on a board that
-- describes devices, all of the address space that the default memory map never executes
abbrev pub has_side_effects : Bool → ℕ → Bool
has_side_effects devices a = (is_in_window a || is_in_ppb a) || (devices && is_execute_never a)
