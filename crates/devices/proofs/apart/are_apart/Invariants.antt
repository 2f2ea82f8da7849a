use Rattle.std.proofs.Common.{◌≡◌, drop}
use Rattle.devices.specs.Apart.{are_apart}
use Rattle.devices.proofs.apart.are_apart.Given as goal

abbrev pub invariant-devices : goal.invariant-devices
invariant-devices l = are_apart (drop l.at l.devices) ≡ are_apart l.fn.devices
