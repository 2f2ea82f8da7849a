-- Bytes by which one world can influence another: bytes of RAM that one may write and the other may read or execute.
use Rattle.std.specs.Prelude.{◌≡◌, ℕ, ◌+◌, ◌≤◌, Bool, true, false, not, ◌&&◌, ◌||◌, nat_le, List, [], ◌∷◌}
use Rattle.std.specs.List.{list_any}
use Rattle.access_map.specs.declared.world.Place.TheVariants.{Ram, SecondRam}
use Rattle.access_map.specs.declared.world.Rights.{Rights}
use Rattle.access_map.specs.declared.world.World.{World}
use Rattle.access_map.specs.Worlds.{rights_at, is_in_place}
use Rattle.mpu.specs.declared.spans.Span.{Span}
use Rattle.platform.specs.Boards.{Numbers}

-- a span has an address
abbrev pub has_address : ℕ → Span → Bool
has_address a x = nat_le x.first a && nat_le a x.last

-- a span of a list has it
abbrev pub covers : List Span → ℕ → Bool
covers xs a = list_any (has_address a) xs

-- a byte can carry something from who has the first rights to who has the others
abbrev pub carries : Rights → Rights → Bool
carries writer reader = writer.write && (reader.read || reader.execute)

-- the byte of a RAM at an address can carry something from world v to world w, and isn't one that is allowed to
abbrev pub is_channel : World → World → List Span → ℕ → Bool
is_channel v w allowed a = carries (rights_at v Ram a) (rights_at w Ram a) && not (covers allowed a)

-- an address is in RAM or in the second RAM
abbrev pub is_in_ram : Numbers → ℕ → Bool
is_in_ram board a = is_in_place board Ram a || is_in_place board SecondRam a

-- world v shares the byte at an address with world w
unfoldable pub is_shared : Numbers → World → World → List Span → ℕ → Bool
is_shared board v w allowed a = is_in_ram board a && is_channel v w allowed a

-- the spans rise, from a on. None is empty, and between two of them is an address, so none can be longer
abbrev pub RiseFrom : ℕ → List Span → Type 0
RiseFrom a [] = Unit {0}
RiseFrom a (x ∷ xs) = (a ≤ x.first) × (x.first ≤ x.last) × RiseFrom (x.last + 2) xs

-- the spans that world v shares with world w: exactly the shared bytes, and as long as possible
pub record AreShared (board : Numbers) (v w : World) (allowed : List Span) (xs : List Span) : Type 0 where
  pub exactly : (a : ℕ) → covers xs a ≡ is_shared board v w allowed a
  pub rising : RiseFrom 0 xs

-- world v shares a byte with world w
abbrev pub SharesAny : Numbers → World → World → List Span → Type 0
SharesAny board v w allowed = (a : ℕ) × (is_shared board v w allowed a ≡ true)

-- two worlds are apart: neither shares a byte with the other
abbrev pub AreWorldsApart : Numbers → World → World → List Span → Type 0
AreWorldsApart board v w allowed =
    (a : ℕ) → (is_shared board v w allowed a ≡ false) × (is_shared board w v allowed a ≡ false)
