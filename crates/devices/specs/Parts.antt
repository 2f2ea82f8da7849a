-- The part of a word that an aligned access of 1, 2 or 4 bytes takes (profile: little endian, as memory).
use Rattle.std.specs.Prelude.{ℕ, ◌-◌, ◌*◌, ◌/◌, ◌%◌, ◌^◌, ◌&&◌, ◌==◌, if◌then◌else◌, Option, Some, None}
use Rattle.instruction_set.specs.declared.size.Size.{Size}
use Rattle.instruction_set.specs.Sizes.{bytes_in}
use Rattle.devices.specs.declared.device.Device.{Device}

-- how many bits of its word are below the byte that an address names
abbrev pub bits_below : ℕ → ℕ
bits_below a = 8 * (a % 4)

-- what an access of this size at an address reads of a word
abbrev pub part : ℕ → Size → ℕ → ℕ
part a size word = word / 2 ^ bits_below a % 256 ^ bytes_in size

-- the bits of the word that such an access covers
abbrev pub covered : ℕ → Size → ℕ
covered a size = (256 ^ bytes_in size - 1) * 2 ^ bits_below a % 2 ^ 32

-- a number at the place in its word that an address names
abbrev pub in_place : ℕ → ℕ → ℕ
in_place a v = v * 2 ^ bits_below a % 2 ^ 32

-- the byte that a store sends to the console: the first of a word of a console
abbrev pub sent : Device → ℕ → ℕ → Option ℕ
sent d a v = if d.console && (a % 4 == 0) then Some (v % 256) else None
