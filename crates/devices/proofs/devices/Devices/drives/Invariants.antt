use Rattle.std.proofs.Common.{◌≡◌, drop}
use Rattle.devices.specs.Lines.{drives}
use Rattle.devices.proofs.devices.Devices.drives.Given as goal

abbrev pub invariant-devices : goal.invariant-devices
invariant-devices l = drives (drop l.device-index l.self) l.interrupt ≡ drives l.fn.self l.fn.interrupt
