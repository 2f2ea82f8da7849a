use Rattle.std.proofs.Common.{◌≡◌, ◌≤◌, ◌++◌, drop, length}
use Rattle.devices.specs.Devices.{value_at}
use Rattle.devices.specs.Lines.{levels, levels_by}
use Rattle.devices.specs.Pokes.{poked_all}
use Rattle.devices.proofs.devices.Devices.levels_after.Given as goal

abbrev pub invariant-devices : goal.invariant-devices
invariant-devices g l =
    (l.levels.items
    ++ levels_by (value_at (poked_all l.self l.ticks (g.P.Pokes.pokes l.pokes)) l.ticks) (drop l.device-index l.self)
    ≡ levels (poked_all l.fn.self l.fn.ticks (g.P.Pokes.pokes l.fn.pokes)) l.fn.ticks)
    × (length l.levels.items ≤ l.device-index)
