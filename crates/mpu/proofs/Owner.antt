-- One look of the search, from the highest region downward.
use Rattle.std.proofs.Common.{◌≡◌, ℕ, zero, suc, ◌-◌, ◌<◌, ◌≤◌, true, false, Bool, if◌then◌else◌, Some, None, arith}
use Rattle.std.proofs.Common.{refl, sym, ap}
use Rattle.platform.specs.Regions.{Mpu, region, matches, owner_below}

step-found : (m : Mpu) (a k : ℕ) → matches (region m k) a ≡ true → owner_below m a (suc k) ≡ Some k
unfolding owner_below
step-found m a k hit = ap (λ (b : Bool). if b then Some k else owner_below m a k) hit

step-passed : (m : Mpu) (a k : ℕ) → matches (region m k) a ≡ false → owner_below m a (suc k) ≡ owner_below m a k
unfolding owner_below
step-passed m a k miss = ap (λ (b : Bool). if b then Some k else owner_below m a k) miss

pub found : (m : Mpu) (a n : ℕ) → 0 < n → matches (region m (n - 1)) a ≡ true → owner_below m a n ≡ Some (n - 1)
found m a zero some hit = absurd (let wrong : ⊥ = omega arith in wrong)
found m a (suc n) some hit = let e : suc n - 1 ≡ n = omega arith in rw e (step-found m a n (rw e at hit))

pub passed : (m : Mpu) (a n : ℕ) → 0 < n → matches (region m (n - 1)) a ≡ false
    → owner_below m a (n - 1) ≡ owner_below m a n
passed m a zero some miss = absurd (let wrong : ⊥ = omega arith in wrong)
passed m a (suc n) some miss = let e : suc n - 1 ≡ n = omega arith in rw e (sym (step-passed m a n (rw e at miss)))

pub none_left : (m : Mpu) (a n : ℕ) → n ≤ 0 → owner_below m a n ≡ None
unfolding owner_below
none_left m a zero none = refl
none_left m a (suc n) none = absurd (let wrong : ⊥ = omega arith in wrong)

pub ruleset owner_lemmas = (found, passed, none_left)
