-- FAULTMASK, NMI and HardFault alone bring the execution priority below 0.
use Rattle.std.proofs.Common.{◌≡◌, ℕ, zero, suc, ◌≤◌, min, Bool, true, false, ◌||◌, slice_index, refl}
use Rattle.std.proofs.Common.{arith}
use Rattle.std.proofs.lemmas.Bool.Decides.{nat_tests}
use Rattle.std.proofs.lemmas.Bool.{cond_both}
use Rattle.platform.specs.declared.exception.TheConstants.{NMI, HARD_FAULT, EXCEPTIONS}
use Rattle.platform.specs.Priorities.{Nvic, is_in, is_negative, is_below_zero, fixed_or, of_byte, grouped}
use Rattle.platform.specs.Priorities.{raised_by, highest_active, boosted, execution_priority}
use Rattle.nvic.proofs.Least.{at_most_active}

-- another exception than NMI and HardFault has a priority of 0 or more
fixed_high : (x other : ℕ) → (x ≡ NMI → ⊥) → (x ≡ HARD_FAULT → ⊥) → 2 ≤ fixed_or x (of_byte other)
fixed_high x other f g = grind (arith, nat_tests)

lessened_high : (n : Nvic) (x p : ℕ) → is_in n.active NMI ≡ false → is_in n.active HARD_FAULT ≡ false → 2 ≤ p
    → 2 ≤ raised_by n x p
lessened_high n x p f g h =
    cond_both (is_in n.active x) _ _ (λ v. 2 ≤ v)
    (λ e. let high = fixed_high x (grouped n.group (slice_index n.priorities x)) (λ i. cc) (λ i. cc) in
    omega (arith, high, h))
    (λ e. h)

active_high : (n : Nvic) (k : ℕ) → is_in n.active NMI ≡ false → is_in n.active HARD_FAULT ≡ false
    → 2 ≤ highest_active n k
unfolding highest_active
active_high n zero f g = omega arith
active_high n (suc k) f g = lessened_high n k (highest_active n k) f g (active_high n k f g)

-- the masks raise to -1 under FAULTMASK alone
boosted_high : (n : Nvic) → n.masks.faultmask ≡ false → 2 ≤ boosted n.group n.masks
boosted_high n f = grind arith

masked_low : (n : Nvic) → n.masks.faultmask ≡ true → boosted n.group n.masks ≤ 1
masked_low n f = grind arith

is_low : (p : ℕ) → p ≤ 1 → is_negative p ≡ true
is_low p h = grind (arith, nat_tests)

is_high : (p : ℕ) → 2 ≤ p → is_negative p ≡ false
is_high p h = grind (arith, nat_tests)

pub below_zero : (n : Nvic) → is_below_zero n ≡ (n.masks.faultmask || is_in n.active NMI || is_in n.active HARD_FAULT)
unfolding execution_priority
below_zero n = split n.masks.faultmask (is_in n.active NMI) (is_in n.active HARD_FAULT) refl refl refl
  where
    split : (f a b : Bool) → n.masks.faultmask ≡ f → is_in n.active NMI ≡ a → is_in n.active HARD_FAULT ≡ b
        → is_negative (min (highest_active n EXCEPTIONS) (boosted n.group n.masks)) ≡ (f || a || b)
    split true a b e i j = let h = masked_low n e in is_low _ (omega (arith, h))
    split false true b e i j = let h = at_most_active n EXCEPTIONS NMI (omega arith) i in is_low _ (omega (arith, h))
    split false false true e i j = let h = at_most_active n EXCEPTIONS HARD_FAULT (omega arith) j in
        is_low _ (omega (arith, h))
    split false false false e i j =
        let h = active_high n EXCEPTIONS i j in
        let k = boosted_high n e in
        is_high _ (omega (arith, h, k))
