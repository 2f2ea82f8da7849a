use Rattle.std.proofs.Common.{◌≡◌, ◌≤◌, ◌+◌, drop, length}
use Rattle.gdb_texts.specs.Stretches.{placed, with_devices}
use Rattle.platform.specs.Boards.{numbers_of}
use Rattle.gdb_texts.proofs.stretches.placed.Given as goal

abbrev pub invariant-devices : goal.invariant-devices
invariant-devices l = record {
  items : with_devices (drop l.device-index l.devices) l.all.items
      ≡ placed (numbers_of l.fn.layout) l.fn.devices l.fn.others;
  room : length l.all.items ≤ 5 + l.device-index;
}
