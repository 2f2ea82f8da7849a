use Rattle.std.proofs.Common.{◌≡◌, ◌≤◌, ◌++◌, drop}
use Rattle.gdb_texts.specs.Regions.{region_at, region_in}
use Rattle.platform.specs.Boards.{numbers_of}
use Rattle.gdb_texts.proofs.regions.put_region_info.Given as goal

abbrev pub invariant-stretches : goal.invariant-stretches
invariant-stretches g l = record {
  region : region_in l.from (drop l.stretch-index l.stretches) l.address
      ≡ region_at (numbers_of l.fn.layout) l.fn.devices l.fn.address;
  before : l.from ≤ l.address;
  page : l.page ≡ l.fn.page;
}
