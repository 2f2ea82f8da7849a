-- Devices that have no address in common.
use Rattle.std.specs.Prelude.{◌+◌, Bool, true, ◌&&◌, ◌||◌, nat_le, List, [], ◌∷◌}
use Rattle.devices.specs.declared.device.Device.{Device}
use Rattle.devices.specs.Devices.{DeviceWords}

-- one of two devices ends before the other begins
abbrev pub are_two_apart : Device → Device → Bool
are_two_apart d e = nat_le (d.base + d.size) e.base || nat_le (e.base + e.size) d.base

-- a device has no address that one of some devices has
abbrev pub is_apart_from : Device → List DeviceWords → Bool
is_apart_from d [] = true
is_apart_from d (e ∷ es) = are_two_apart d e.device && is_apart_from d es

-- no two of some devices have one address
abbrev pub are_apart : List DeviceWords → Bool
are_apart [] = true
are_apart (d ∷ ds) = is_apart_from d.device ds && are_apart ds
