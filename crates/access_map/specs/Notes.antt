-- What a careful reader says of the regions of a world (profile).
use Rattle.std.specs.Prelude.{ℕ, zero, suc, ◌+◌, ◌%◌, ◌^◌, Bool, not, ◌&&◌, ◌==◌, if◌then◌else◌, List, [], ◌++◌}
use Rattle.std.specs.Prelude.{codes, decimal}
use Rattle.access_map.specs.declared.world.World.{World}
use Rattle.access_map.specs.Lines.{spaced}
use Rattle.platform.specs.declared.mpu.Region.{Region}
use Rattle.platform.specs.Regions.{Mpu, is_on, is_region_enabled, region, size}
use Rattle.platform.specs.Rules.{is_off_below_zero}
use Rattle.platform.specs.Text.{line_feed}

-- a region is on, and its base has a bit below its size. ValidateAddress() compares the bits above alone; the manual
-- leaves it to software to align RBAR.ADDR
abbrev pub is_misaligned : Region → Bool
is_misaligned r = is_region_enabled r.attributes && not (r.base % 2 ^ (size r.attributes + 1) == 0)

-- the regions decide accesses: the MPU is on, and the rule `neg` doesn't hold
abbrev pub uses_regions : World → Bool
uses_regions w = is_on w.registers.control && not (is_off_below_zero w.registers.control w.below_zero)

-- the line of a region of world k: its number, and its base
unfoldable pub misaligned_line : ℕ → ℕ → ℕ → List ℕ
misaligned_line k number base =
    ((((codes "misaligned " ++ decimal k) ++ codes " r") ++ decimal number) ++ spaced base) ++ line_feed

abbrev pub region_note : ℕ → ℕ → Region → List ℕ
region_note k number r = if is_misaligned r then misaligned_line k number r.base else []

-- the lines of the first n regions
abbrev pub notes_below : ℕ → Mpu → ℕ → List ℕ
notes_below k m zero = []
notes_below k m (suc n) = notes_below k m n ++ region_note k n (region m n)

-- the lines of the misaligned regions of world k, where the regions decide
abbrev pub misaligned_text : ℕ → World → List ℕ
misaligned_text k w = if uses_regions w then notes_below k w.registers w.registers.count else []
