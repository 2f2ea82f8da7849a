-- What a table decides by an interval is what the owner of the address decides.
use Rattle.std.proofs.Common.{◌≡◌, ℕ, ◌+◌, ◌<◌, Bool, List, length, get_or, slice_set, Some, false, refl, ◌∙◌, arith}
use Rattle.std.proofs.Common.{below_more}
use Rattle.std.proofs.lemmas.List.{get_or-set_same, get_or-set_other}
use Rattle.mpu_table.specs.Intervals.{HasAddress, HasRegionBelow16, interval}
use Rattle.mpu_table.specs.Tables.{HasRights, DecidesFor, View}
use Rattle.mpu.specs.declared.rules.Rights.{Rights}
use Rattle.platform.specs.Regions.{Mpu, region, owner, permission, never_executes}
use Rattle.platform.specs.Rules.{by_owner, permission_grants}
use Rattle.platform.specs.declared.access.Decision.{Decision}
use Rattle.platform.specs.declared.access.Kind.{Kind}
use Rattle.platform.specs.declared.access.Rule.TheVariants as rule

-- one more place
pub rights_more : (xs : List Rights) (m : Mpu) (n : ℕ) (r : Rights) → n < length xs → HasRights xs m n
    → r.permission ≡ permission (region m n).attributes → r.never_executes ≡ never_executes (region m n).attributes
    → HasRights (slice_set xs n r) m (n + 1)
rights_more xs m n r room before p x k d h =
    below_more (λ k. (d : Rights) → ((get_or (slice_set xs n r) k d).permission ≡ permission (region m k).attributes)
    × ((get_or (slice_set xs n r) k d).never_executes ≡ never_executes (region m k).attributes)) n
    (λ k h d. rw (get_or-set_other xs n k r d (λ e. omega arith)) (before k d h))
    (λ d. rw (get_or-set_same xs n r d room) (p, x))
    k h d

-- the region of the interval of an address is its owner
pub owner_there : (t : View) (m : Mpu) (a place : ℕ) → DecidesFor t m → place < length t.spans
    → HasAddress (interval t.spans place) a
    → owner m a ≡ (interval t.spans place).region
owner_there t m a place stands within there = stands.names place _ within a there.0 there.1

-- the rights that a table has of a region
abbrev rights_of : View → ℕ → Rights
rights_of t k = get_or t.rights k (record { permission = 0; never_executes = false })

pub by_own : (t : View) (m : Mpu) (kind : Kind) (a : ℕ) (privileged : Bool) (place k : ℕ) (d : Decision)
    → DecidesFor t m → place < length t.spans → HasAddress (interval t.spans place) a
    → (interval t.spans place).region ≡ Some k → HasRegionBelow16 (interval t.spans place)
    → d.rule ≡ rule.Region k
    → d.granted ≡ permission_grants (rights_of t k).permission (rights_of t k).never_executes kind privileged
    → d ≡ by_owner m kind a privileged (owner m a)
by_own t m kind a privileged place k d stands within there named small r g =
    let o : owner m a ≡ Some k = owner_there t m a place stands within there ∙ named in
    let few : k < 16 = rw named at small in
    let e = stands.rights k (record { permission = 0; never_executes = false }) few in
    rw o (rw (r, g, e.0, e.1) refl)
