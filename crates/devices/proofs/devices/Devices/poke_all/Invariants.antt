use Rattle.std.proofs.Common.{◌≡◌, drop}
use Rattle.devices.specs.Pokes.{poked_all}
use Rattle.devices.proofs.devices.Devices.poke_all.Given as goal

abbrev pub invariant-loop-poke : goal.invariant-loop-poke
invariant-loop-poke l = poked_all l.self l.ticks (drop l.poke-index l.pokes) ≡ poked_all l.fn.self l.fn.ticks l.fn.pokes
