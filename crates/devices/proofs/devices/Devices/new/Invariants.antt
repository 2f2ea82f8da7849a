use Rattle.std.proofs.Common.{◌≡◌, ◌≤◌, ◌++◌, drop, length}
use Rattle.devices.specs.Devices.{fresh}
use Rattle.devices.proofs.devices.Devices.new.Given as goal

abbrev pub invariant-devices : goal.invariant-devices
invariant-devices l =
    (l.devices.items ++ fresh (drop l.device-index l.table) ≡ fresh l.fn.table)
    × (length l.devices.items ≤ l.device-index)
