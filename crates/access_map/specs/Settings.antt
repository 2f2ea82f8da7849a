-- When two worlds are one: the MPU has the same setting (profile).
use Rattle.std.specs.Prelude.{◌≡◌, ℕ, zero, suc, ◌<◌, Bool, true, not, ◌&&◌, ◌||◌, ◌==◌}
use Rattle.access_map.specs.declared.world.World.{World}
use Rattle.platform.specs.declared.mpu.Region.{Region}
use Rattle.platform.specs.Regions.{Mpu, region, is_on}
use Rattle.platform.specs.Rules.{is_off_below_zero}

-- the regions don't decide, though the MPU is on: the execution priority is below 0, and HFNMIENA is 0
abbrev pub is_negative : World → Bool
is_negative w = is_on w.registers.control && is_off_below_zero w.registers.control w.below_zero

-- two worlds have the same MPU_CTRL, the same ADDR of RBAR and the same RASR of each region, and in both the rule `neg`
-- holds or in neither
pub record IsSameSetting (v w : World) : Type 0 where
  pub control : v.registers.control ≡ w.registers.control
  pub count : v.registers.count ≡ w.registers.count
  pub regions : (k : ℕ) → k < v.registers.count → region v.registers k ≡ region w.registers k
  pub negative : is_negative v ≡ is_negative w

-- ---- the same as a test

abbrev pub is_same_region : Region → Region → Bool
is_same_region r s = (r.base == s.base) && (r.attributes == s.attributes)

-- the first n regions are the same
abbrev pub are_same_below : Mpu → Mpu → ℕ → Bool
are_same_below m n zero = true
are_same_below m n (suc k) = are_same_below m n k && is_same_region (region m k) (region n k)

abbrev pub are_equal : Bool → Bool → Bool
are_equal b c = (b && c) || (not b && not c)

unfoldable pub is_same_setting : World → World → Bool
is_same_setting v w =
    ((v.registers.control == w.registers.control) && (v.registers.count == w.registers.count))
    && (are_same_below v.registers w.registers v.registers.count && are_equal (is_negative v) (is_negative w))
