use Rattle.std.proofs.Common.{◌≡◌, drop}
use Rattle.platform.specs.Wiring.{is_driven}
use Rattle.board.proofs.device_span.is_driven.Given as goal

-- one of the devices drives the interrupt just where one of those that are left does
abbrev pub invariant-devices : goal.invariant-devices
invariant-devices l = is_driven (drop l.device-index l.devices) l.interrupt ≡ is_driven l.devices l.interrupt
