-- What unprivileged code may do in a world: with the bytes of a board, while the MPU has one setting (profile).
use Rattle.std.specs.Prelude.{ℕ, ◌+◌, Bool, true, false, ◌&&◌, nat_le, nat_lt}
use Rattle.std.specs.Prelude.{if◌then◌else◌, List, [], ◌∷◌, Option, Some, None}
use Rattle.access_map.specs.declared.world.Place.{Place}
use Rattle.access_map.specs.declared.world.Place.TheVariants.{Flash, Ram, SecondRam, Window}
use Rattle.access_map.specs.declared.world.Rights.{Rights}
use Rattle.access_map.specs.declared.world.World.{World}
use Rattle.platform.specs.Boards.{Numbers, RamSpan}
use Rattle.platform.specs.declared.access.Kind.{Kind}
use Rattle.platform.specs.declared.access.Kind.TheVariants.{Fetch, Load, Store}
use Rattle.platform.specs.declared.access.Decision.{Decision}
use Rattle.platform.specs.declared.access.Rule.{Rule}
use Rattle.platform.specs.Map.{ram_base, out_register}
use Rattle.platform.specs.Rules.{decision_of}

-- the decision on an access by unprivileged code
abbrev pub decision_in : World → ℕ → Kind → Decision
decision_in w a kind = decision_of w.registers a kind false w.below_zero

-- a store changes bytes of both RAMs and registers of the window, and no byte of flash
abbrev pub takes_stores : Place → Bool
takes_stores Flash = false
takes_stores Ram = true
takes_stores SecondRam = true
takes_stores Window = true

-- code is in flash and in both RAMs
abbrev pub holds_code : Place → Bool
holds_code Flash = true
holds_code Ram = true
holds_code SecondRam = true
holds_code Window = false

-- what unprivileged code may do with the byte at an address of a place: read it where a load is granted, change it
-- where a store is granted and the place takes stores, execute it where a fetch is granted and the place holds code
unfoldable pub rights_at : World → Place → ℕ → Rights
rights_at w place a = record {
  read = (decision_in w a Load).granted;
  write = takes_stores place && (decision_in w a Store).granted;
  execute = holds_code place && (decision_in w a Fetch).granted;
}

-- the rule that decides a load there
unfoldable pub rule_at : World → ℕ → Rule
rule_at w a = (decision_in w a Load).rule

-- a board without a second RAM has none of its bytes
abbrev pub second_base : Option RamSpan → ℕ
second_base None = 0
second_base (Some second) = second.base

abbrev pub second_size : Option RamSpan → ℕ
second_size None = 0
second_size (Some second) = second.size

-- where a place of a board begins, and how many bytes it has
abbrev pub first_of : Numbers → Place → ℕ
first_of board Flash = board.flash_base
first_of board Ram = ram_base
first_of board SecondRam = second_base board.second_ram
first_of board Window = out_register

abbrev pub size_of : Numbers → Place → ℕ
size_of board Flash = board.flash_size
size_of board Ram = board.ram_size
size_of board SecondRam = second_size board.second_ram
size_of board Window = 0x1000

-- the first address after a place
abbrev pub end_of : Numbers → Place → ℕ
end_of board place = first_of board place + size_of board place

-- an address is in a place
abbrev pub is_in_place : Numbers → Place → ℕ → Bool
is_in_place board place a = nat_le (first_of board place) a && nat_lt a (end_of board place)

-- places in the order of their addresses, and one more
abbrev pub inserted : Numbers → Place → List Place → List Place
inserted board place [] = place ∷ []
inserted board place (other ∷ others) =
    if nat_lt (first_of board place) (first_of board other) then place ∷ other ∷ others
    else other ∷ inserted board place others

abbrev pub places_with : Numbers → Option RamSpan → List Place
places_with board None = Flash ∷ Ram ∷ Window ∷ []
places_with board (Some second) = inserted board SecondRam (Flash ∷ Ram ∷ Window ∷ [])

-- the places of a board, in the order of their addresses
abbrev pub places : Numbers → List Place
places board = places_with board board.second_ram
