use Rattle.std.proofs.Common.{◌≡◌, take}
use Rattle.board.proofs.found_devices.copied.Given as goal

-- the devices that were gone through were copied
abbrev pub invariant-devices : goal.invariant-devices
invariant-devices l = l.copy.items ≡ take l.device-index l.devices
