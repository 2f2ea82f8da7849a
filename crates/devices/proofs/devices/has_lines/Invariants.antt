use Rattle.std.proofs.Common.{◌≡◌, drop}
use Rattle.devices.specs.Lines.{has_lines}
use Rattle.devices.proofs.devices.has_lines.Given as goal

abbrev pub invariant-devices : goal.invariant-devices
invariant-devices l = has_lines (drop l.device-index l.devices) ≡ has_lines l.fn.devices
