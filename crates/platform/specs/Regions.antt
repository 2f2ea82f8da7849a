-- The registers of the Memory Protection Unit, and which region an address belongs to (ARM DDI 0403, "Protected Memory
-- System Architecture, PMSAv7": "Register support for PMSAv7 in the SCS", and the pseudocode of ValidateAddress()).
-- A write that the manual calls UNPREDICTABLE stops the machine with a named stop and changes nothing (profile).
use Rattle.std.specs.Prelude.{◌≡◌, ℕ, zero, suc, ◌+◌, ◌-◌, ◌*◌, ◌/◌, ◌%◌, ◌^◌, ◌<◌, ◌≤◌, ◌⊎◌, Bool, true, not, ◌&&◌}
use Rattle.std.specs.Prelude.{◌||◌, ◌==◌, nat_lt, nat_le, if◌then◌else◌, List, length, slice_index_or, slice_set}
use Rattle.std.specs.Prelude.{replicate, Option, Some, None, Result, Ok, Err, bit_and}
use Rattle.instruction_set.specs.declared.unpredictable.UnpredictableCase.TheVariants.{MpuRegion, MpuControl}
use Rattle.instruction_set.specs.Words.{bit_at, is_bit}
use Rattle.platform.specs.declared.mpu.MpuRegister.{MpuRegister}
use Rattle.platform.specs.declared.mpu.MpuRegister.TheVariants as register
use Rattle.platform.specs.declared.mpu.MpuStop.{MpuStop}
use Rattle.platform.specs.declared.mpu.MpuStop.TheVariants as stop
use Rattle.platform.specs.declared.mpu.RegionCount.{RegionCount}
use Rattle.platform.specs.declared.mpu.RegionCount.TheVariants.{Eight, Sixteen}
use Rattle.platform.specs.declared.mpu.Region.{Region}
use Rattle.platform.specs.declared.stop.Stop.{Stop}
use Rattle.platform.specs.declared.stop.Stop.TheVariants.{Unpredictable}

-- how many regions an MPU has: MPU_TYPE.DREGION
abbrev pub region_number : RegionCount → ℕ
region_number Eight = 8
region_number Sixteen = 16

pub record Mpu : Type 0 where
  -- MPU_CTRL
  pub control : ℕ
  -- MPU_RNR: the region that RBAR and RASR access
  pub number : ℕ
  -- the board's: how many regions there are, 8 or 16
  pub count : ℕ
  -- a place for each of sixteen regions, of which the first `count` are there
  pub regions : List Region

-- MPU_CTRL.ENABLE, HFNMIENA and PRIVDEFENA, by what MPU_CTRL holds
abbrev pub is_on : ℕ → Bool
is_on control = is_bit control 0

abbrev pub is_on_below_zero : ℕ → Bool
is_on_below_zero control = is_bit control 1

abbrev pub has_background : ℕ → Bool
has_background control = is_bit control 2

-- the fields of a RASR: ENABLE, SIZE (the field, not the bytes of the region), SRD (its eight bits), AP and XN
abbrev pub is_region_enabled : ℕ → Bool
is_region_enabled attributes = is_bit attributes 0

abbrev pub size : ℕ → ℕ
size attributes = attributes / 2 % 32

abbrev pub switched_off : ℕ → ℕ
switched_off attributes = attributes / 2 ^ 8 % 256

abbrev pub permission : ℕ → ℕ
permission attributes = attributes / 2 ^ 24 % 8

abbrev pub never_executes : ℕ → Bool
never_executes attributes = is_bit attributes 28

-- a region that nothing was written to
abbrev pub empty : Region
empty = record { base = 0; attributes = 0 }

-- region k
abbrev pub region : Mpu → ℕ → Region
region m k = slice_index_or m.regions k empty

abbrev pub with_region : Mpu → ℕ → Region → Mpu
with_region m k r = record m { regions = slice_set m.regions k r }

-- the registers after a reset, with this number of regions. MPU_RNR, MPU_RBAR and MPU_RASR, whose reset values are
-- UNKNOWN, are 0 (profile)
abbrev pub fresh : ℕ → Mpu
fresh count = record { control = 0; number = 0; count = count; regions = replicate 16 empty }

-- The registers' addresses

-- whether an address is a register's or one of its aliases', which are 8, 16 and 24 bytes above it
abbrev pub is_aliased : ℕ → ℕ → Bool
is_aliased first a = (a == first) || (a == first + 8) || (a == first + 16) || (a == first + 24)

-- the register of the MPU at an address of a word, if there is one
abbrev pub mpu_register_at : ℕ → Option MpuRegister
mpu_register_at a =
    if a == 0xE000_ED90 then Some register.Type
    else if a == 0xE000_ED94 then Some register.Control
    else if a == 0xE000_ED98 then Some register.Number
    else if is_aliased 0xE000_ED9C a then Some register.Base
    else if is_aliased 0xE000_EDA0 a then Some register.Attributes
    else None

-- Reading a register

-- MPU_TYPE.DREGION is from bit 8 on; RBAR reads VALID as 0 and REGION as RNR
unfoldable pub read : Mpu → MpuRegister → ℕ
read m register.Type = m.count * 256
read m register.Control = m.control
read m register.Number = m.number
read m register.Base = (region m m.number).base + m.number
read m register.Attributes = (region m m.number).attributes

-- the registers of region k as a debugger shows them: RBAR with VALID 0 and REGION k, and RASR
abbrev pub region_registers : Mpu → ℕ → Option (ℕ × ℕ)
region_registers m k = if nat_lt k m.count then Some ((region m k).base + k, (region m k).attributes) else None

-- Writing a register

abbrev pub with_region_base : Mpu → ℕ → ℕ → Mpu
with_region_base m k base = with_region m k (record (region m k) { base = base })

abbrev pub with_attributes : Mpu → ℕ → ℕ → Mpu
with_attributes m k attributes = with_region m k (record (region m k) { attributes = attributes })

-- HFNMIENA without ENABLE is UNPREDICTABLE
abbrev pub write_mpu_ctrl : Mpu → ℕ → Result Mpu MpuStop
write_mpu_ctrl m value =
    if is_on_below_zero value && not (is_on value) then Err stop.Control else Ok (record m { control = value % 8 })

-- RNR takes the number of a region that exists
abbrev pub selected : Mpu → ℕ → Result Mpu MpuStop
selected m k = if nat_lt k m.count then Ok (record m { number = k }) else Err stop.Region

-- RNR has bits 7:0
abbrev pub write_number : Mpu → ℕ → Result Mpu MpuStop
write_number m value = selected m (value % 256)

-- the selected region's base becomes ADDR, bits 31:5 of the value, unless selecting it stopped
abbrev pub based : Result Mpu MpuStop → ℕ → Result Mpu MpuStop
based (Ok m) value = Ok (with_region_base m m.number (value / 32 * 32))
based (Err why) value = Err why

-- RBAR with VALID 1 selects REGION first, as RNR does
abbrev pub write_base : Mpu → ℕ → Result Mpu MpuStop
write_base m value = based (if is_bit value 4 then selected m (value % 16) else Ok m) value

-- what RASR keeps of a value: XN, AP, TEX, S, C, B, SRD, SIZE and ENABLE
abbrev pub kept_attributes : ℕ → ℕ
kept_attributes value = bit_and value 0x173F_FF3F

-- an enabled region has at least 32 bytes, an AP other than 100, and SRD 0 where it has fewer than 256 bytes
abbrev pub is_accepted : ℕ → Bool
is_accepted attributes =
    not (is_region_enabled attributes)
    || (nat_le 4 (size attributes)
    && not (permission attributes == 4)
    && (nat_le 7 (size attributes) || (switched_off attributes == 0)))

abbrev pub write_attributes : Mpu → ℕ → Result Mpu MpuStop
write_attributes m value =
    if is_accepted (kept_attributes value)
    then Ok (with_attributes m m.number (kept_attributes value))
    else Err stop.Region

-- the registers after a write of a value, or why it stops; MPU_TYPE ignores writes
unfoldable pub write : Mpu → MpuRegister → ℕ → Result Mpu MpuStop
write m register.Type value = Ok m
write m register.Control value = write_mpu_ctrl m value
write m register.Number value = write_number m value
write m register.Base value = write_base m value
write m register.Attributes value = write_attributes m value

-- a write that stops leaves the registers as they were
abbrev pub after_write : Mpu → Result Mpu MpuStop → Mpu
after_write m (Ok n) = n
after_write m (Err why) = m

-- the result of a write
abbrev pub answered : Result Mpu MpuStop → Result (Unit {0}) MpuStop
answered (Ok n) = Ok tt
answered (Err why) = Err why

-- the machine's stop for a write that stops
abbrev pub stop_of : MpuStop → Stop
stop_of stop.Region = Unpredictable MpuRegion
stop_of stop.Control = Unpredictable MpuControl

-- what holds of the registers after a reset, and after each write
pub record IsSound (m : Mpu) : Type 0 where
  pub count_known : (m.count ≡ 8) ⊎ (m.count ≡ 16)
  pub number_within : m.number < m.count
  pub control_small : m.control < 8
  pub sixteen : length m.regions ≡ 16
  pub based : (k : ℕ) → (region m k).base % 32 ≡ 0
  pub taken : (k : ℕ) → is_accepted (region m k).attributes ≡ true

-- The region that an address belongs to

-- a region covers 2^(SIZE + 1) bytes: the bits of an address below SIZE + 1 aren't compared with its base
abbrev pub agrees : Region → ℕ → Bool
agrees r a = a / 2 ^ (size r.attributes + 1) == r.base / 2 ^ (size r.attributes + 1)

-- the eighth of the region that an address is in
abbrev pub subregion : Region → ℕ → ℕ
subregion r a = a / 2 ^ (size r.attributes - 2) % 8

-- from 256 bytes upward a region has eight subregions, and bit k of SRD switches off subregion k
abbrev pub is_switched_off : Region → ℕ → Bool
is_switched_off r a = nat_le 7 (size r.attributes) && is_bit r.attributes (8 + subregion r a)

-- whether an address lies in a region that is enabled, and in none of its subregions that are switched off
unfoldable pub matches : Region → ℕ → Bool
matches r a = is_region_enabled r.attributes && agrees r a && not (is_switched_off r a)

-- the greatest of the regions below k that an address lies in
unfoldable pub owner_below : Mpu → ℕ → ℕ → Option ℕ
owner_below m a zero = None
owner_below m a (suc k) = if matches (region m k) a then Some k else owner_below m a k

-- the region that an address belongs to, if there is one
unfoldable pub owner : Mpu → ℕ → Option ℕ
owner m a = owner_below m a m.count

-- The same without a search: when an address lies in a region, and when a region is its owner

-- an address lies in a region: ENABLE is 1, the address and the base agree from bit SIZE + 1 upward, and from 256 bytes
-- upward SRD is 0 at the subregion of the address
pub record Matches (r : Region) (a : ℕ) : Type 0 where
  pub enabled : bit_at r.attributes 0 ≡ 1
  pub same_bits : a / 2 ^ (size r.attributes + 1) ≡ r.base / 2 ^ (size r.attributes + 1)
  pub switched_on : 7 ≤ size r.attributes → bit_at r.attributes (8 + subregion r a) ≡ 0

-- the owner is the region of the greatest number that the address lies in; an address in no region has no owner
abbrev pub IsOwner : Mpu → ℕ → Option ℕ → Type 0
IsOwner m a None = (k : ℕ) → k < m.count → Matches (region m k) a → ⊥
IsOwner m a (Some k) =
    (k < m.count) × Matches (region m k) a × ((j : ℕ) → k < j → j < m.count → Matches (region m j) a → ⊥)
