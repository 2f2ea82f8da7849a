use Rattle.std.proofs.Common.{◌≡◌, ◌≤◌, ◌++◌, drop, length}
use Rattle.devices.proofs.devices.Devices.copied.Given as goal

abbrev pub invariant-devices : goal.invariant-devices
invariant-devices l =
    (l.devices.items ++ drop l.device-index l.self ≡ l.fn.self) × (length l.devices.items ≤ l.device-index)
