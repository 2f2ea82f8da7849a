use Rattle.std.proofs.Common.{take}
use Rattle.access_map.specs.Maps.{AreMapsOf}
use Rattle.platform.specs.Boards.{numbers_of}
use Rattle.access_map.proofs.map.AccessMap.of.Given as goal

-- there are maps of the places that were read
abbrev pub invariant-places : goal.invariant-places
invariant-places l = AreMapsOf l.world (numbers_of l.board) (take l.place-index l.all) l.maps.items
