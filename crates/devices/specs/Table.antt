-- The table of a board's devices (profile): the first device in it that has an address is the device of that address.
use Rattle.std.specs.Prelude.{ℕ, ◌+◌, ◌-◌, ◌/◌, Bool, ◌&&◌, nat_le, nat_lt, if◌then◌else◌}
use Rattle.std.specs.Prelude.{List, [], ◌∷◌, Option, Some, None}
use Rattle.devices.specs.declared.device.Device.{Device}

-- whether a byte of the device has the address
abbrev pub has : Device → ℕ → Bool
has d a = nat_le d.base a && nat_lt a (d.base + d.size)

-- the first of some devices that has the address
abbrev pub device_at : List Device → ℕ → Option Device
device_at [] a = None
device_at (d ∷ ds) a = if has d a then Some d else device_at ds a

-- the number of the word that has the address, counted from the first of the device
abbrev pub place : Device → ℕ → ℕ
place d a = (a - d.base) / 4
