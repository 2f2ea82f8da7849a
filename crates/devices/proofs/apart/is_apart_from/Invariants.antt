use Rattle.std.proofs.Common.{◌≡◌, drop}
use Rattle.devices.specs.Apart.{is_apart_from}
use Rattle.devices.proofs.apart.is_apart_from.Given as goal

abbrev pub invariant-others : goal.invariant-others
invariant-others l = is_apart_from l.device (drop l.other-index l.others) ≡ is_apart_from l.fn.device l.fn.others
