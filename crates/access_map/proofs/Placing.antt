-- The maps of places, made one after another.
use Rattle.std.proofs.Common.{◌≡◌, List, [], ◌∷◌, ◌++◌}
use Rattle.access_map.specs.declared.map.PlaceMap.{PlaceMap}
use Rattle.access_map.specs.declared.world.Place.{Place}
use Rattle.access_map.specs.declared.world.World.{World}
use Rattle.access_map.specs.Maps.{AreMapsOf, IsPlaceMap}
use Rattle.platform.specs.Boards.{Numbers}

-- one more map after the others
pub maps_push : (w : World) (board : Numbers) (ps : List Place) (ms : List PlaceMap) (p : Place) (m : PlaceMap)
    → AreMapsOf w board ps ms → m.place ≡ p → IsPlaceMap w board p m.intervals.items
    → AreMapsOf w board (ps ++ p ∷ []) (ms ++ m ∷ [])
maps_push w board [] [] p m maps same is = (same, is, tt)
maps_push w board [] (n ∷ ms) p m maps same is = absurd maps
maps_push w board (q ∷ ps) [] p m maps same is = absurd maps
maps_push w board (q ∷ ps) (n ∷ ms) p m maps same is =
    (maps.0, maps.1, maps_push w board ps ms p m maps.2 same is)
