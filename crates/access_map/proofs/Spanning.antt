-- Where the places of a board are.
use Rattle.std.proofs.Common.{◌≡◌, ℕ, ◌+◌, ◌≤◌, ◌&&◌, Bool, true, false, nat_le, nat_lt, arith, refl, lit≤}
use Rattle.std.proofs.Common.{Option, Some, None, option_map}
use Rattle.std.proofs.lemmas.Bool.Decides.{nat_tests}
use Rattle.access_map.specs.declared.world.Place.{Place}
use Rattle.access_map.specs.Sharing.{has_address}
use Rattle.access_map.specs.Worlds.{end_of, first_of, is_in_place, second_base, second_size, size_of}
use Rattle.mpu.specs.declared.spans.Span.{Span}
use Rattle.platform.specs.Boards.{Numbers, span_of}
use Rattle.platform.specs.declared.board.SecondRam.{SecondRam}
use Rattle.platform.specs.Map.{is_for_memory}

-- memory ends at 0xA0000000 or before
pub memory_ends : (base size : ℕ) → is_for_memory base size ≡ true → base + size ≤ 0xA000_0000
memory_ends base size fits = grind (arith, nat_tests)

pub second_ends : (second : Option SecondRam)
    → second_base (option_map span_of second) + second_size (option_map span_of second) ≤ 0xA000_0000
second_ends None = lit≤ tt
second_ends (Some second) = memory_ends second.base second.size second.is_for_memory

-- an address is in a place where the span of the place has it
pub in_place_is : (board : Numbers) (place : Place) (x : Span) (a : ℕ) → x.first ≡ first_of board place
    → x.last + 1 ≡ end_of board place → is_in_place board place a ≡ has_address a x
in_place_is board place x a begins ends = rw (← ends, ← begins) (lead (nat_le x.first a))
  where
    last : nat_lt a (x.last + 1) ≡ nat_le a x.last
    last = grind (arith, nat_tests)

    lead : (b : Bool) → (b && nat_lt a (x.last + 1)) ≡ (b && nat_le a x.last)
    lead true = last
    lead false = refl

-- no place has an address after its end
pub place_ends : (board : Numbers) (place : Place) (a : ℕ) → end_of board place ≤ a → is_in_place board place a ≡ false
place_ends board place a h = lead (nat_le (first_of board place) a)
    (let e : nat_lt a (end_of board place) ≡ false = grind (arith, nat_tests) in e)
  where
    lead : (b : Bool) → nat_lt a (end_of board place) ≡ false → (b && nat_lt a (end_of board place)) ≡ false
    lead true e = e
    lead false e = refl

-- a place without a byte has no address
pub empty_has_none : (board : Numbers) (place : Place) (a : ℕ) → size_of board place ≡ 0
    → is_in_place board place a ≡ false
empty_has_none board place a none = lead (nat_le (first_of board place) a) refl
  where
    lead : (b : Bool) → nat_le (first_of board place) a ≡ b → (b && nat_lt a (end_of board place)) ≡ false
    lead true e = let f : nat_lt a (end_of board place) ≡ false = grind (arith, nat_tests) in f
    lead false e = refl

pub ruleset has_lemmas = (in_place_is, empty_has_none)
