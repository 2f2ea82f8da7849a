use Rattle.std.proofs.Common.{◌≡◌, drop}
use Rattle.devices.specs.Table.{device_at}
use Rattle.devices.proofs.table.device_at.Given as goal

abbrev pub invariant-devices : goal.invariant-devices
invariant-devices l = device_at (drop l.device-index l.table) l.address ≡ device_at l.fn.table l.fn.address
