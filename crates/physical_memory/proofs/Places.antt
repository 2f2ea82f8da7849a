-- Where the blocks of memory are.
use Rattle.std.proofs.Common.{◌≡◌, ℕ, ◌+◌, ◌<◌, ◌≤◌, Bool, true, false, List, [], ◌∷◌, drop, length}
use Rattle.std.proofs.Common.{Option, Some, None, refl, arith}
use Rattle.std.proofs.lemmas.Bool.Decides.{nat_tests}
use Rattle.platform.specs.Map.{are_apart, is_for_memory, is_in_window, ram_base}
use Rattle.platform.specs.Memory.{Block, Memory, block_at, holds, is_in_memory, is_writable_at, number_at}
use Rattle.platform.specs.SystemInvariant.{IsApartFrom, IsLaidOut}
use Rattle.physical_memory.specs.MemoryBlocks.{AreInPlace, flash_block, memory_of, ram_block}

-- memory ends at 0xA0000000 or below
pub ends_low : (base size : ℕ) → is_for_memory base size ≡ true → base + size ≤ 0xA000_0000
ends_low base size fits = grind (arith, nat_tests, fits)

-- ---- blocks that are laid out

place_by : (b : Block) (m : Memory) (a n : ℕ) → is_for_memory b.base (length b.bytes) ≡ true →
    is_in_memory (b ∷ m) a n ≡ true → 0 < n → (is_in_memory m a n ≡ true → is_for_memory a n ≡ true) →
    (here : Bool) → holds b a n ≡ here → is_for_memory a n ≡ true
place_by b m a n place there some later true e = grind (arith, nat_tests, e, place)
place_by b m a n place there some later false e = later (rw e at there)

-- bytes of memory are where memory may be
pub in_place : (m : Memory) (a n : ℕ) → IsLaidOut m → is_in_memory m a n ≡ true → 0 < n → is_for_memory a n ≡ true
in_place [] a n laid there some = absurd cc
in_place (b ∷ m) a n laid there some =
    place_by b m a n laid.0 there some (λ later. in_place m a n laid.2 later some) _ refl

is_there : (m : Memory) (a n v : ℕ) → number_at m a n ≡ Some v → is_in_memory m a n ≡ true
is_there m a n v e = split (block_at m a n) refl
  where
    split : (found : Option Block) → block_at m a n ≡ found → is_in_memory m a n ≡ true
    split None f = absurd cc (rw f at e)
    split (Some b) f = rw f refl

-- bytes that a store may change are in memory
pub writable_is_there : (m : Memory) (a n : ℕ) → is_writable_at m a n ≡ true → is_in_memory m a n ≡ true
writable_is_there m a n e = split (block_at m a n) refl
  where
    split : (found : Option Block) → block_at m a n ≡ found → is_in_memory m a n ≡ true
    split None f = absurd cc (rw f at e)
    split (Some b) f = rw f refl

-- what is read from memory isn't in the window
pub not_in_window : (m : Memory) (a n v : ℕ) → IsLaidOut m → 0 < n → number_at m a n ≡ Some v
    → is_in_window a ≡ false
not_in_window m a n v laid some read =
    let place = in_place m a n laid (is_there m a n v read) some in
    grind (arith, nat_tests, place, some)

-- ---- the blocks of a `PhysicalMemory`

apart_by : (b c : Block) (x : ℕ) → are_apart b.base (length b.bytes) c.base (length c.bytes) ≡ true →
    holds b x 1 ≡ true → holds c x 1 ≡ false
apart_by b c x apart here = grind (arith, nat_tests, apart, here)

apart_from : (b c : Block) (m : Memory) → are_apart b.base (length b.bytes) c.base (length c.bytes) ≡ true →
    IsApartFrom b m → IsApartFrom b (c ∷ m)
apart_from b c m apart others x here = rw (apart_by b c x apart here) (others x here)

flash_and_ram : (base size more : ℕ) → base + size ≤ ram_base → are_apart base size ram_base more ≡ true
flash_and_ram base size more low = grind (arith, nat_tests, low)

for_flash : (base size : ℕ) → base + size ≤ ram_base → is_for_memory base size ≡ true
for_flash base size low = grind (arith, nat_tests, low)

for_ram : (size : ℕ) → size ≤ 0x10_0000 → is_for_memory ram_base size ≡ true
for_ram size small = grind (arith, nat_tests, small)

-- they are laid out
pub laid_out : (flash_base : ℕ) (flash ram : List ℕ) (second : Option Block) →
    AreInPlace flash_base flash ram second → IsLaidOut (memory_of flash_base flash ram second)
laid_out flash_base flash ram None h = (
  for_flash flash_base (length flash) h.0,
  apart_from (flash_block flash_base flash) (ram_block ram) [] (flash_and_ram flash_base (length flash) _ h.0)
      (λ x here. refl),
  (for_ram (length ram) h.1, (λ x here. refl), tt),
)
laid_out flash_base flash ram (Some b) h = (
  for_flash flash_base (length flash) h.0,
  apart_from (flash_block flash_base flash) (ram_block ram) (b ∷ []) (flash_and_ram flash_base (length flash) _ h.0)
      (apart_from (flash_block flash_base flash) b [] h.2.1 (λ x here. refl)),
  (for_ram (length ram) h.1, apart_from (ram_block ram) b [] h.2.2 (λ x here. refl), (h.2.0, (λ x here. refl), tt)),
)

-- the second RAM is the third block
pub third_is : (base : ℕ) (flash ram bytes : List ℕ) (second : Option Block) (b : Block) (m : Memory) (i at : ℕ) →
    m ≡ memory_of base flash ram second → second ≡ Some b → i ≡ 2 → at ≡ b.base → bytes ≡ b.bytes →
    b.is_writable ≡ true →
    drop i m ≡ record { base = at; bytes = bytes; is_writable = true } ∷ drop (i + 1) m
third_is base flash ram bytes second b m i at is found two place same takes =
    rw (two, is, found, place, same, ← takes) refl
