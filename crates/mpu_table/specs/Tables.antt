-- What a table keeps, and which registers it represents.
use Rattle.std.specs.Prelude.{◌≡◌, ℕ, ◌^◌, ◌<◌, ◌≤◌, List, length, slice_index_or}
use Rattle.std.specs.List.{All}
use Rattle.mpu_table.specs.Intervals.{Tiles, NamesOwner, HasRegionBelow16}
use Rattle.mpu_table.specs.declared.interval.Interval.{Interval}
use Rattle.mpu.specs.declared.rules.Rights.{Rights}
use Rattle.platform.specs.Regions.{Mpu, region, permission, never_executes}

pub record View : Type 0 where
  -- the intervals
  pub spans : List Interval
  -- AP and XN of each region
  pub rights : List Rights
  -- MPU_CTRL
  pub control : ℕ

-- what holds of each table: its intervals cover all addresses, and name regions that have a place
pub record IsTable (t : View) : Type 0 where
  pub tiles : Tiles t.spans 0 (2 ^ 32)
  pub within : All HasRegionBelow16 t.spans
  pub few : length t.spans ≤ 192

-- the rights at each place are those of the region
abbrev pub HasRights : List Rights → Mpu → ℕ → Type 0
HasRights rights m count =
    (k : ℕ) (d : Rights) → k < count →
    ((slice_index_or rights k d).permission ≡ permission (region m k).attributes)
    × ((slice_index_or rights k d).never_executes ≡ never_executes (region m k).attributes)

-- a table represents registers where it has their MPU_CTRL, names the owner of each address, and has the rights of each
-- region
pub record DecidesFor (t : View) (m : Mpu) : Type 0 where
  pub control : t.control ≡ m.control
  pub names : All (NamesOwner m) t.spans
  pub rights : HasRights t.rights m 16
