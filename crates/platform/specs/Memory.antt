-- Memory, a partial map from addresses to bytes: a list of blocks. Flash is the first one, then RAM, then the second
-- RAM where the board has one. The board says where flash and the second RAM begin, and how large each block is.
use Rattle.std.specs.Prelude.{◌≡◌, ℕ, zero, suc, ◌+◌, ◌-◌, ◌*◌, ◌/◌, ◌%◌, Bool, true, false, ◌&&◌, nat_le}
use Rattle.std.specs.Prelude.{if◌then◌else◌, List, [], ◌∷◌, ◌++◌, length, take, drop, slice_index, Option, Some, None}
use Rattle.std.specs.Prelude.{is_some, option_map, unwrap_or}

-- a block of memory: its bytes from an address on, and whether a store may change them
pub record Block : Type 0 where
  pub base : ℕ
  pub bytes : List ℕ
  pub is_writable : Bool

abbrev pub Memory : Type 0
Memory = List Block

-- whether n bytes from a on are all in a block of `size` bytes from base on
abbrev pub is_within : ℕ → ℕ → ℕ → ℕ → Bool
is_within base size a n = nat_le base a && nat_le (a + n) (base + size)

-- whether a block has n bytes from a on
abbrev pub holds : Block → ℕ → ℕ → Bool
holds b a n = is_within b.base (length b.bytes) a n

-- the first block that has n bytes from a on, if one does
abbrev pub block_at : Memory → ℕ → ℕ → Option Block
block_at [] a n = None
block_at (b ∷ m) a n = if holds b a n then Some b else block_at m a n

-- whether n bytes from a on lie wholly in one block
abbrev pub is_in_memory : Memory → ℕ → ℕ → Bool
is_in_memory m a n = is_some (block_at m a n)

-- whether a store may change the block that was found
abbrev pub takes_stores : Option Block → Bool
takes_stores None = false
takes_stores (Some b) = b.is_writable

-- whether n bytes from a on lie wholly in one block, and a store may change them
abbrev pub is_writable_at : Memory → ℕ → ℕ → Bool
is_writable_at m a n = takes_stores (block_at m a n)

-- the number in the n bytes from a place of a list on: the lowest byte is first
abbrev pub number_in : List ℕ → ℕ → ℕ → ℕ
number_in bytes at zero = 0
number_in bytes at (suc n) = slice_index bytes at + 256 * number_in bytes (at + 1) n

-- the number in the n bytes from an address on, where they lie wholly in one block
abbrev pub number_at : Memory → ℕ → ℕ → Option ℕ
number_at m a n = option_map (λ b. number_in b.bytes (a - b.base) n) (block_at m a n)

-- the byte at an address, if there is one
abbrev pub byte_at : Memory → ℕ → Option ℕ
byte_at m a = option_map (λ b. slice_index b.bytes (a - b.base)) (block_at m a 1)

-- the lowest n bytes of a number, the lowest first
abbrev pub bytes_of : ℕ → ℕ → List ℕ
bytes_of zero v = []
bytes_of (suc n) v = v % 256 ∷ bytes_of n (v / 256)

-- the list with these bytes from place `at` on: what was before them, the bytes, and what was after them
abbrev pub with_bytes : List ℕ → ℕ → List ℕ → List ℕ
with_bytes block at bytes = (take at block ++ bytes) ++ drop (at + length bytes) block

-- the block with these bytes from an address on
abbrev pub block_with : Block → ℕ → List ℕ → Block
block_with b a bytes = record b { bytes = with_bytes b.bytes (a - b.base) bytes }

-- memory with these bytes from a on, in the first block that has all their addresses
abbrev pub overwritten : Memory → ℕ → List ℕ → Memory
overwritten [] a bytes = []
overwritten (b ∷ m) a bytes =
    if holds b a (length bytes) then block_with b a bytes ∷ m else b ∷ overwritten m a bytes

-- an entry of the vector table at an address
abbrev pub vector : Memory → ℕ → ℕ → ℕ
vector m base number = unwrap_or (number_at m (base + 4 * number) 4) 0

-- Not used by a step, but by what is proved of one: the rest of this file

-- two blocks are at the same place, and their bytes agree where a test of addresses holds
pub record BlocksAgree (test : ℕ → Bool) (one two : Block) : Type 0 where
  pub base : two.base ≡ one.base
  pub size : length two.bytes ≡ length one.bytes
  pub is_writable : two.is_writable ≡ one.is_writable
  pub bytes : (k : ℕ) → test (one.base + k) ≡ true → slice_index two.bytes k ≡ slice_index one.bytes k

-- two memories have as many blocks, at the same places, and their bytes agree where a test of addresses holds
abbrev pub Agree : (ℕ → Bool) → Memory → Memory → Type 0
Agree test [] [] = Unit {0}
Agree test (one ∷ m) (two ∷ w) = BlocksAgree test one two × Agree test m w
Agree test [] (two ∷ w) = ⊥
Agree test (one ∷ m) [] = ⊥
