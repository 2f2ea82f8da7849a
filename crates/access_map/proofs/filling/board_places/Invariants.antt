use Rattle.std.proofs.Common.{◌-◌}
use Rattle.access_map.specs.Places.{kind_at}
use Rattle.access_map.proofs.PlacesMade.{IsFilled}
use Rattle.platform.specs.Boards.{numbers_of}
use Rattle.access_map.proofs.filling.board_places.Given as goal

-- the places are complete up to the current part
abbrev pub invariant-each : goal.invariant-each
invariant-each l = IsFilled (kind_at (numbers_of l.board) l.devices) l.places.items l.current

abbrev pub decreases-each : goal.decreases-each
decreases-each l = 0xFFFF_FFFF - l.current.last
