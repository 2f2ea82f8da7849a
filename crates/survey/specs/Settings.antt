-- The settings under which regions decided accesses, and how many accesses each of them decided.
use Rattle.std.specs.Prelude.{ℕ, ◌+◌, Bool, ◌&&◌, ◌==◌, nat_lt, if◌then◌else◌, List, [], ◌∷◌, Option, Some}
use Rattle.std.specs.Prelude.{None, slice_set, slice_index_or, take, replicate}
use Rattle.platform.specs.declared.access.DecidedAccess.{DecidedAccess}
use Rattle.platform.specs.declared.access.Rule.{Rule}
use Rattle.platform.specs.declared.access.Rule.TheVariants.{ExecuteNever, VectorRead, PrivatePeripheralBus, MpuOff}
use Rattle.platform.specs.declared.access.Rule.TheVariants.{NegativePriority, Region, Background, NoRegion}
use Rattle.platform.specs.Regions.{Mpu, region_registers}
use Rattle.survey.specs.declared.setting.RegionSetting.{RegionSetting}
use Rattle.survey.specs.declared.setting.Setting.{Setting}
use Rattle.survey.specs.Counts.{counted_at, one_more, way_of}

-- The settings so far. Of the 64 places of `rows` the first `used` are rows, in the order in which they first decided.
pub record Settings : Type 0 where
  pub rows : List Setting
  pub used : ℕ
  -- how many accesses were decided by a setting that has no row
  pub others : ℕ

-- how many rows there are at most
abbrev pub max_settings : ℕ
max_settings = 64

-- a row is that of a region's setting: its number, RBAR and RASR
abbrev pub is_of : RegionSetting → Setting → Bool
is_of region row =
    ((row.region.number == region.number) && (row.region.base == region.base))
    && (row.region.attributes == region.attributes)

-- the place of the first row of a region's setting in a list of rows, or the list's length where it has none
abbrev pub place_in : RegionSetting → List Setting → ℕ
place_in region [] = 0
place_in region (row ∷ rows) = if is_of region row then 0 else place_in region rows + 1

-- the row at a place
abbrev pub row_at : Settings → ℕ → Setting → Setting
row_at s place other = slice_index_or s.rows place other

-- a row that counts nothing so far
abbrev pub blank_row : RegionSetting → Setting
blank_row region = record { region = region; ways = replicate 42 0 }

-- a row that counts one access more
abbrev pub counted_row : Setting → ℕ → Setting
counted_row row way = record row { ways = counted_at row.ways way }

-- the row at a place counts one access more
abbrev pub counted_in : Settings → RegionSetting → ℕ → ℕ → Settings
counted_in s region place way =
    record s { rows = slice_set s.rows place (counted_row (row_at s place (blank_row region)) way) }

-- a new row, which counts one access, where there is a place for it; otherwise the access is one of the others
abbrev pub added : Settings → RegionSetting → ℕ → Settings
added s region way =
    if nat_lt s.used max_settings
    then record s { rows = slice_set s.rows s.used (counted_row (blank_row region) way); used = s.used + 1 }
    else record s { others = one_more s.others }

-- an access of a way, decided by a region's setting, is counted, where the place of the first row of it is known
abbrev pub counted_from : Settings → RegionSetting → ℕ → ℕ → Settings
counted_from s region way place =
    if nat_lt place s.used then counted_in s region place way else added s region way

-- an access of a way, decided by a region's setting, is counted
unfoldable pub with_setting : Settings → RegionSetting → ℕ → Settings
with_setting s region way = counted_from s region way (place_in region (take s.used s.rows))

-- the setting of the region of a number, by its RBAR and RASR, if there is such a region
abbrev pub setting_of : ℕ → Option (ℕ × ℕ) → Option RegionSetting
setting_of number None = None
setting_of number (Some pair) = Some (record { number = number; base = pair.0; attributes = pair.1 })

abbrev pub with_setting_of : Settings → Option RegionSetting → ℕ → Settings
with_setting_of s None way = s
with_setting_of s (Some region) way = with_setting s region way

-- after an access that was decided by a rule, while the MPU had these registers
abbrev pub with_rule : Mpu → Settings → ℕ → Rule → Settings
with_rule mpu s way ExecuteNever = s
with_rule mpu s way VectorRead = s
with_rule mpu s way PrivatePeripheralBus = s
with_rule mpu s way MpuOff = s
with_rule mpu s way NegativePriority = s
with_rule mpu s way Background = s
with_rule mpu s way NoRegion = s
with_rule mpu s way (Region number) =
    with_setting_of s (setting_of number (region_registers mpu number)) way

-- after an access
abbrev pub with_decision : Mpu → Settings → DecidedAccess → Settings
with_decision mpu s d =
    with_rule mpu s (way_of d.access.privileged d.access.kind d.refused) d.rule
