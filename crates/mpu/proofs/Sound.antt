-- The registers stay sound where one region is changed to another that a write takes.
use Rattle.std.proofs.Common.{◌≡◌, ℕ, zero, suc, ◌%◌, List, [], ◌∷◌, true, ◌∙◌, slice_index_or, slice_set}
use Rattle.std.proofs.Math.ListN.{length-set}
use Rattle.platform.specs.declared.mpu.Region.{Region}
use Rattle.platform.specs.Regions.{Mpu, IsSound, with_region, empty, is_accepted}

-- what holds of the new region and of each old one holds of each region after the change
each-after : (P : Region → Type 0) (regions : List Region) (k j : ℕ) (r : Region)
    → P r → ((i : ℕ) → P (slice_index_or regions i empty)) → P (slice_index_or (slice_set regions k r) j empty)
each-after P [] k j r new old = old j
each-after P (x ∷ xs) zero zero r new old = new
each-after P (x ∷ xs) zero (suc j) r new old = old (suc j)
each-after P (x ∷ xs) (suc k) zero r new old = old zero
each-after P (x ∷ xs) (suc k) (suc j) r new old = each-after P xs k j r new (λ i. old (suc i))

pub with_region-sound : (m : Mpu) (k : ℕ) (r : Region)
    → IsSound m → r.base % 32 ≡ 0 → is_accepted r.attributes ≡ true → IsSound (with_region m k r)
with_region-sound m k r s based taken = record {
  count_known = s.count_known;
  number_within = s.number_within;
  control_small = s.control_small;
  sixteen = length-set m.regions k r ∙ s.sixteen;
  based = λ j. each-after (λ x. x.base % 32 ≡ 0) m.regions k j r based s.based;
  taken = λ j. each-after (λ x. is_accepted x.attributes ≡ true) m.regions k j r taken s.taken;
}
