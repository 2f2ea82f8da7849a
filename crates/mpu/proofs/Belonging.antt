-- The search finds the highest region that an address lies in, and nothing else is that region.
use Rattle.std.proofs.Common.{◌≡◌, ℕ, zero, suc, ◌<◌, ◌≤◌, ◌⊎◌, ◌↔◌, true, false, Bool, if◌then◌else◌, Option, Some}
use Rattle.std.proofs.Common.{None, arith, refl, ap, inl, inr, below_more}
use Rattle.std.proofs.lemmas.Bool.{cases_lt}
use Rattle.std.proofs.lemmas.Bool.Decides.{nat_tests}
use Rattle.platform.specs.declared.mpu.Region.{Region}
use Rattle.platform.specs.Regions.{Mpu, region, matches, Matches, owner_below, owner, IsOwner}

-- an address lies in a region where the test says so
means : (r : Region) (a : ℕ) → matches r a ≡ true → Matches r a
unfolding matches
means r a e = record {
  enabled = grind (arith, nat_tests);
  same_bits = grind (arith, nat_tests);
  switched_on = λ h. grind (arith, nat_tests);
}

holds : (r : Region) (a : ℕ) → Matches r a → matches r a ≡ true
unfolding matches
holds r a m = let e = m.enabled in let s = m.same_bits in let o = m.switched_on in grind (arith, nat_tests)

-- the same of the regions below n
abbrev IsBelow : Mpu → ℕ → ℕ → Option ℕ → Type 0
IsBelow m a n None = (k : ℕ) → k < n → Matches (region m k) a → ⊥
IsBelow m a n (Some k) =
    (k < n) × Matches (region m k) a × ((j : ℕ) → k < j → j < n → Matches (region m j) a → ⊥)

-- what holds of each number below n and of n holds of each below the next
or_last : (P : ℕ → Type 0) (n : ℕ) → ((k : ℕ) → k < n → P k) → P n → (k : ℕ) → k < suc n → P k
or_last P n below here k h = below_more P n below here k (omega arith)

-- one more region in which the address doesn't lie
one_more : (m : Mpu) (a n : ℕ) (o : Option ℕ) → (Matches (region m n) a → ⊥) → IsBelow m a n o → IsBelow m a (suc n) o
one_more m a n None miss before = or_last (λ k. Matches (region m k) a → ⊥) n before miss
one_more m a n (Some k) miss before = (
  omega arith,
  before.1,
  λ j above below. or_last (λ i. k < i → Matches (region m i) a → ⊥) n
      (λ i under over. before.2 i over under) (λ _. miss) j below above,
)

step : (m : Mpu) (a n : ℕ) (b : Bool) (o : Option ℕ)
    → matches (region m n) a ≡ b → IsBelow m a n o → IsBelow m a (suc n) (if b then Some n else o)
step m a n true o e before = (omega arith, means (region m n) a e, λ j above below _. omega arith)
step m a n false o e before = one_more m a n o (λ h. let yes_too = holds (region m n) a h in cc) before

is_below : (m : Mpu) (a n : ℕ) → IsBelow m a n (owner_below m a n)
unfolding owner_below
is_below m a zero = λ k under _. omega arith
is_below m a (suc n) = step m a n (matches (region m n) a) (owner_below m a n) refl (is_below m a n)

-- two owners are one
pub only_owner : (m : Mpu) (a : ℕ) (o p : Option ℕ) → IsOwner m a o → IsOwner m a p → o ≡ p
only_owner m a None None f g = refl
only_owner m a None (Some k) f g = absurd (f k g.0 g.1)
only_owner m a (Some k) None f g = absurd (g k f.0 f.1)
only_owner m a (Some j) (Some k) f g = ap Some (lead (cases_lt j k) (cases_lt k j))
  where
    lead : ((j < k) ⊎ (k ≤ j)) → ((k < j) ⊎ (j ≤ k)) → j ≡ k
    lead (inl below) _ = absurd (f.2 k below g.0 g.1)
    lead (inr _) (inl below) = absurd (g.2 j below f.0 f.1)
    lead (inr above) (inr below) = omega arith

pub owner_is : (m : Mpu) (a : ℕ) → IsOwner m a (owner m a)
unfolding owner
owner_is m a = lead (owner_below m a m.count) (is_below m a m.count)
  where
    lead : (o : Option ℕ) → IsBelow m a m.count o → IsOwner m a o
    lead None f = f
    lead (Some k) f = f

pub owner_exactly : (m : Mpu) (a : ℕ) (o : Option ℕ) → IsOwner m a o ↔ (o ≡ owner m a)
owner_exactly m a o = (λ f. only_owner m a o (owner m a) f (owner_is m a), λ e. rw e (owner_is m a))
