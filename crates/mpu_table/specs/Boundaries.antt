-- Where an address can begin or cease to lie in a region.
use Rattle.std.specs.Prelude.{ℕ, ◌+◌, ◌*◌, ◌/◌, ◌^◌, ◌<◌, ◌≤◌, Bool, not, ◌&&◌, ◌==◌, nat_le, if◌then◌else◌, List}
use Rattle.std.specs.List.{Contains}
use Rattle.platform.specs.declared.mpu.Region.{Region}
use Rattle.platform.specs.Regions.{size, switched_off}

-- the length of the block of addresses whose upper bits the base of a region has, and where it begins
abbrev pub block_of : Region → ℕ
block_of r = 2 ^ (size r.attributes + 1)

abbrev pub begin_of : Region → ℕ
begin_of r = r.base / block_of r * block_of r

-- whether eighths of a region are switched off
abbrev pub has_eighths : ℕ → Bool
has_eighths attributes = nat_le 7 (size attributes) && not (switched_off attributes == 0)

-- the number of pieces of a region
abbrev pub pieces_of : ℕ → ℕ
pieces_of attributes = if has_eighths attributes then 8 else 1

-- the boundaries of a region: where its pieces begin, and where the last one ends
abbrev pub HasBoundaries : List ℕ → ℕ → ℕ → ℕ → Type 0
HasBoundaries points begin length count =
    (j : ℕ) → j ≤ count → begin + j * length < 2 ^ 32 → Contains points (begin + j * length)
