-- What contracts see of a count of worlds, and of the events of a step.
use Rattle.std.specs.Prelude.{◌≡◌, ℕ, List, map, Option, Some, None}
use Rattle.access_map.specs.Counting.{Worlds, place_of}
use Rattle.access_map.specs.declared.world.World.{World}
use Rattle.platform.specs.declared.event.Event.{Event}
use Rattle.platform.specs.Regions.{Mpu}
use Rattle.trace.specs.Emission.{Emission}

-- the worlds so far, and the registers of the MPU under which the next step is made
pub record CountModel : Type 0 where
  pub worlds : Worlds
  pub mpu : Mpu

-- the place of a world's row, where it is known
abbrev pub IsPlaceOf : Option ℕ → World → Worlds → Type 0
IsPlaceOf None w v = Unit {0}
IsPlaceOf (Some place) w v = place ≡ place_of w v

-- the events of pairs of which each event is the second
abbrev pub events_of : List (Unit {0} × Event) → List Event
events_of items = map (λ entry. entry.1) items

-- what a sink that has taken these events shows
abbrev pub emission : List (Unit {0} × Event) → Emission
emission items = record { writer = 0; written = None; errors = 0; events = events_of items }
