-- The blocks of a `PhysicalMemory`: flash, RAM, and the second RAM where the board has one.
use Rattle.std.specs.Prelude.{◌≡◌, ℕ, ◌+◌, ◌≤◌, Bool, false, true, List, [], ◌∷◌, length, Option, Some, None}
use Rattle.platform.specs.Map.{are_apart, is_for_memory, ram_base}
use Rattle.platform.specs.Memory.{Block, Memory, holds}

-- the second RAM, if there is one
abbrev pub second_block : Option Block → Memory
second_block None = []
second_block (Some b) = b ∷ []

abbrev pub flash_block : ℕ → List ℕ → Block
flash_block base bytes = record { base = base; bytes = bytes; is_writable = false }

abbrev pub ram_block : List ℕ → Block
ram_block bytes = record { base = ram_base; bytes = bytes; is_writable = true }

-- flash at an address, RAM, and the second RAM
abbrev pub memory_of : ℕ → List ℕ → List ℕ → Option Block → Memory
memory_of flash_base flash ram second =
    flash_block flash_base flash ∷ ram_block ram ∷ second_block second

-- a second RAM is where memory may be, and has no byte of flash and none of RAM
abbrev pub IsSecondInPlace : ℕ → ℕ → ℕ → Option Block → Type 0
IsSecondInPlace flash_base flash_size ram_size None = Unit {0}
IsSecondInPlace flash_base flash_size ram_size (Some b) =
    (is_for_memory b.base (length b.bytes) ≡ true)
    × (are_apart flash_base flash_size b.base (length b.bytes) ≡ true)
    × (are_apart ram_base ram_size b.base (length b.bytes) ≡ true)

-- flash ends where RAM begins, or below, RAM has a mebibyte at most, and the second RAM is apart from both
abbrev pub AreInPlace : ℕ → List ℕ → List ℕ → Option Block → Type 0
AreInPlace flash_base flash ram second =
    (flash_base + length flash ≤ ram_base) × (length ram ≤ 0x10_0000)
    × IsSecondInPlace flash_base (length flash) (length ram) second

-- whether the first block of a memory has n bytes from a on, and whether the second one has
abbrev pub is_in_flash : Memory → ℕ → ℕ → Bool
is_in_flash [] a n = false
is_in_flash (flash ∷ m) a n = holds flash a n

abbrev pub is_in_ram : Memory → ℕ → ℕ → Bool
is_in_ram [] a n = false
is_in_ram (flash ∷ m) a n = is_in_flash m a n
