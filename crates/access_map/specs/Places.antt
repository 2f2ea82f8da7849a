-- The places of a board that describes devices: the longest stretches of addresses that are flash, RAM, devices or the
-- device window (profile).
use Rattle.std.specs.Prelude.{◌≡◌, ℕ, ◌+◌, ◌<◌, ◌≤◌, Bool, not, ◌&&◌, nat_le, if◌then◌else◌}
use Rattle.std.specs.Prelude.{List, [], ◌∷◌, Option, Some, None}
use Rattle.std.specs.List.{list_any}
use Rattle.access_map.specs.declared.board_place.BoardPlace.{BoardPlace}
use Rattle.access_map.specs.declared.board_place.PlaceKind.{PlaceKind}
use Rattle.access_map.specs.declared.board_place.PlaceKind.TheVariants.{Device, Flash, Ram, Window}
use Rattle.access_map.specs.declared.world.Place.TheVariants.{Flash as FlashOf, Window as WindowOf}
use Rattle.access_map.specs.Sharing.{has_address, is_in_ram}
use Rattle.access_map.specs.Worlds.{is_in_place}
use Rattle.devices.specs.declared.device.Device.{Device as TheDevice}
use Rattle.devices.specs.Table.{has}
use Rattle.platform.specs.Boards.{Numbers}

-- an address is in the Private Peripheral Bus
abbrev pub is_in_bus : ℕ → Bool
is_in_bus a = has_address a (record { first = 0xE000_0000; last = 0xE00F_FFFF })

-- a device of a board has an address
abbrev pub has_device : ℕ → TheDevice → Bool
has_device a d = has d a

abbrev pub is_in_device : List TheDevice → ℕ → Bool
is_in_device devices a = list_any (has_device a) devices

-- the kind of an address: that of the first of these tests that holds. Memory comes before devices, and devices before
-- the window
abbrev pub kind_by : Bool → Bool → Bool → Bool → Option PlaceKind
kind_by flash ram device window =
    if flash then Some Flash else if ram then Some Ram else if device then Some Device
    else if window then Some Window else None

-- the kind of place that an address of a board with some devices is in, if it is in one. Devices in the Private
-- Peripheral Bus are no places, since no access of unprivileged code reaches them
unfoldable pub kind_at : Numbers → List TheDevice → ℕ → Option PlaceKind
kind_at board devices a =
    kind_by (is_in_place board FlashOf a) (is_in_ram board a) (not (is_in_bus a) && is_in_device devices a)
    (is_in_place board WindowOf a)

-- the kind of the place of a list that has an address, if one has it
abbrev pub kind_in : List BoardPlace → ℕ → Option PlaceKind
kind_in [] a = None
kind_in (p ∷ ps) a = if nat_le p.first a && nat_le a p.last then Some p.kind else kind_in ps a

-- a place ends before the next one begins, if there is one; where they touch, they are of different kinds
abbrev pub EndsBefore : BoardPlace → List BoardPlace → Type 0
EndsBefore p [] = Unit {0}
EndsBefore p (q ∷ qs) = (p.last < q.first) × (p.last + 1 ≡ q.first → ¬ (p.kind ≡ q.kind))

-- places rise, none is empty, and none can be longer
abbrev pub Rise : List BoardPlace → Type 0
Rise [] = Unit {0}
Rise (p ∷ ps) = (p.first ≤ p.last) × EndsBefore p ps × Rise ps

-- the places of a board with some devices, in the order of their addresses: exactly the addresses of each kind, and as
-- long as possible
pub record ArePlacesOf (board : Numbers) (devices : List TheDevice) (ps : List BoardPlace) : Type 0 where
  pub exactly : (a : ℕ) → kind_in ps a ≡ kind_at board devices a
  pub rising : Rise ps
