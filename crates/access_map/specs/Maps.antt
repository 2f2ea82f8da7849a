-- The access map of a world: a list of intervals for each place of a board.
use Rattle.std.specs.Prelude.{◌≡◌, ℕ, ◌+◌, ◌≤◌, List, [], ◌∷◌}
use Rattle.std.specs.List.{All}
use Rattle.access_map.specs.declared.interval.Interval.{Interval}
use Rattle.access_map.specs.declared.map.AccessMap.{AccessMap}
use Rattle.access_map.specs.declared.map.PlaceMap.{PlaceMap}
use Rattle.access_map.specs.declared.world.Place.{Place}
use Rattle.access_map.specs.declared.world.World.{World}
use Rattle.access_map.specs.Worlds.{rights_at, rule_at, first_of, end_of, places}
use Rattle.platform.specs.Boards.{Numbers}

-- an interval has the rights and the rule of each of its addresses
abbrev pub Describes : World → Place → Interval → Type 0
Describes w place x =
    (a : ℕ) → x.first ≤ a → a ≤ x.last → (rights_at w place a ≡ x.rights) × (rule_at w a ≡ x.rule)

-- the intervals cover the addresses from a up to b in order, without gap or overlap; none is empty
abbrev pub Tiles : List Interval → ℕ → ℕ → Type 0
Tiles [] a b = a ≡ b
Tiles (x ∷ xs) a b = (x.first ≡ a) × (x.first ≤ x.last) × Tiles xs (x.last + 1) b

-- two intervals have the same rights and the same rule
abbrev pub IsAlike : Interval → Interval → Type 0
IsAlike x y = (x.rights ≡ y.rights) × (x.rule ≡ y.rule)

-- the first interval of a list, if there is one, differs from the one before the list
abbrev pub BeginsUnlike : Interval → List Interval → Type 0
BeginsUnlike x [] = Unit {0}
BeginsUnlike x (y ∷ ys) = ¬ IsAlike x y

-- neighbours differ, so none can be longer
abbrev pub AreLongest : List Interval → Type 0
AreLongest [] = Unit {0}
AreLongest (x ∷ xs) = BeginsUnlike x xs × AreLongest xs

-- the intervals of a place: together exactly the place, each right for all of its addresses, and as long as possible
pub record IsPlaceMap (w : World) (board : Numbers) (place : Place) (xs : List Interval) : Type 0 where
  pub tiles : Tiles xs (first_of board place) (end_of board place)
  pub right : All (Describes w place) xs
  pub longest : AreLongest xs

-- there is a map for each of these places, in their order
abbrev pub AreMapsOf : World → Numbers → List Place → List PlaceMap → Type 0
AreMapsOf w board [] [] = Unit {0}
AreMapsOf w board (p ∷ ps) (m ∷ ms) =
    (m.place ≡ p) × IsPlaceMap w board p m.intervals.items × AreMapsOf w board ps ms
AreMapsOf w board [] (m ∷ ms) = ⊥
AreMapsOf w board (p ∷ ps) [] = ⊥

-- the access map of a world
abbrev pub IsMapOf : World → Numbers → AccessMap → Type 0
IsMapOf w board m = AreMapsOf w board (places board) m.places.items
