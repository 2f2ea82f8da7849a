use Rattle.std.proofs.Common.{◌≡◌}
use Rattle.devices.proofs.Copying.{copied_to}
use Rattle.devices.proofs.devices.copy_words.Given as goal

abbrev pub invariant-devices : goal.invariant-devices
invariant-devices l = l.to ≡ copied_to l.at l.fn.to l.fn.from
