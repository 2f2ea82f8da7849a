use Rattle.std.proofs.Common.{◌≡◌, ◌≤◌, [], drop, length}
use Rattle.toml.specs.View.{items_view}
use Rattle.board.specs.Devices.{devices_in}
use Rattle.platform.specs.Boards.{numbers_of}
use Rattle.reasons.proofs.device_tables.listed_problem.Given as goal

-- the devices that are left, after those that were read, are read as all of them are
abbrev pub invariant-values : goal.invariant-values
invariant-values l = record {
  whole : devices_in (numbers_of l.layout) l.before l.found (items_view (drop l.index l.values))
      ≡ devices_in (numbers_of l.layout) 0 [] (items_view l.values);
  count : length l.found ≡ l.index;
  few : l.before ≤ 0x10_0000;
}
