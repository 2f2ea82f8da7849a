-- What a table of intervals says of the regions.
use Rattle.std.specs.Prelude.{◌≡◌, ℕ, ◌+◌, ◌^◌, ◌<◌, ◌≤◌, ◌⊎◌, List, [], ◌∷◌, slice_index_or, None, IfSome}
use Rattle.std.specs.List.{All, Contains}
use Rattle.mpu_table.specs.declared.interval.Interval.{Interval}
use Rattle.platform.specs.declared.mpu.Region.{Region}
use Rattle.platform.specs.Regions.{Mpu, region, matches, owner}

-- the intervals cover the addresses from a up to b in order, without gap or overlap; b is the first one after them
abbrev pub Tiles : List Interval → ℕ → ℕ → Type 0
Tiles [] a b = a ≡ b
Tiles (x ∷ xs) a b = (x.first ≡ a) × (x.first ≤ x.last) × Tiles xs (x.last + 1) b

-- each address of an interval belongs to its region
abbrev pub NamesOwner : Mpu → Interval → Type 0
NamesOwner m x = (a : ℕ) → x.first ≤ a → a ≤ x.last → owner m a ≡ x.region

-- no number of a list is above a and at most b
abbrev pub IsClear : List ℕ → ℕ → ℕ → Type 0
IsClear points a b = All (λ x. (x ≤ a) ⊎ (b < x)) points

-- a region decides alike at two addresses between which no boundary is
abbrev pub PartsRegion : List ℕ → Region → Type 0
PartsRegion points r = (a b : ℕ) → a ≤ b → b < 2 ^ 32 → IsClear points a b → matches r a ≡ matches r b

-- and so do all regions
abbrev pub PartsRegions : List ℕ → Mpu → Type 0
PartsRegions points m = (k : ℕ) → k < m.count → PartsRegion points (region m k)

-- one list has all numbers of another
abbrev pub HasAllOf : List ℕ → List ℕ → Type 0
HasAllOf points more = (x : ℕ) → Contains points x → Contains more x

-- the region of an interval has a number below 16
abbrev pub HasRegionBelow16 : Interval → Type 0
HasRegionBelow16 x = IfSome x.region (λ number. number < 16)

-- the interval at a place of a list
abbrev pub interval : List Interval → ℕ → Interval
interval xs k = slice_index_or xs k (record { first = 0; last = 0; region = None })

-- an interval has an address
abbrev pub HasAddress : Interval → ℕ → Type 0
HasAddress x a = (x.first ≤ a) × (a ≤ x.last)
