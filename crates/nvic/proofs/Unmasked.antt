-- What would be the candidate if PRIMASK were 0.
use Rattle.std.proofs.Common.{◌≡◌, ℕ, zero, suc, ◌<◌, ◌≤◌, ◌⊎◌, min, Bool, true, false, not, ◌&&◌, nat_lt}
use Rattle.std.proofs.Common.{if◌then◌else◌, slice_index, Option, Some, None, refl, sym, ◌∙◌, ap, subst, arith}
use Rattle.std.proofs.lemmas.Bool.Decides.{nat_tests}
use Rattle.std.proofs.lemmas.Bool.{cond_both}
use Rattle.platform.specs.declared.exception.TheConstants.{NMI, EXCEPTIONS}
use Rattle.platform.specs.Priorities.{Nvic, is_in, is_ready, is_negative, is_below_zero, fixed_or, of_byte, grouped}
use Rattle.platform.specs.Priorities.{priority_of, group_priority, raised_by, highest_active, boosted}
use Rattle.platform.specs.Priorities.{execution_priority}
use Rattle.platform.specs.Priorities.{with_primask, best, if_preempts, candidate}
use Rattle.platform.specs.Priorities.{candidate_unmasked}
use Rattle.nvic.proofs.BelowZero.{below_zero}
use Rattle.nvic.proofs.Best.{candidate_is, only_candidate, best_alike}
use Rattle.nvic.proofs.Least.{at_most_active, highest_alike}
use Rattle.nvic.specs.Laws.{IsBest, IsCandidate, IsPendingAndEnabled}

abbrev unmask : Nvic → Nvic
unmask n = with_primask n false

-- the execution priority if PRIMASK were 0
abbrev pub limit : Nvic → ℕ
limit n = min (highest_active n EXCEPTIONS) (boosted n.group (record n.masks { primask = false }))

limit_is : (n : Nvic) → execution_priority (unmask n) ≡ limit n
unfolding execution_priority
limit_is n =
    ap (λ p. min p (boosted n.group (record n.masks { primask = false })))
    (highest_alike n n.pending n.enabled (record n.masks { primask = false }) EXCEPTIONS)

abbrev pub where_below : Nvic → Option ℕ → Option ℕ
where_below n None = None
where_below n (Some x) = if nat_lt (group_priority n x) (limit n) then Some x else None

if_preempts_open : (n : Nvic) (o : Option ℕ) → if_preempts (unmask n) o ≡ where_below n o
if_preempts_open n None = refl
if_preempts_open n (Some x) = ap (λ p. if nat_lt (group_priority n x) p then Some x else None) (limit_is n)

-- the best exception, where its group priority is below that limit
pub unmasked : (n : Nvic) → candidate_unmasked n ≡ where_below n (best n)
unfolding candidate_unmasked candidate
unmasked n =
    ap (λ o. if_preempts (unmask n) o) (best_alike n n.active n.group (record n.masks { primask = false }))
    ∙ if_preempts_open n (best n)

-- ---- at an execution priority below 0

-- another exception than NMI has a priority of -1 or more
fixed_above : (x other : ℕ) → (x ≡ NMI → ⊥) → 1 ≤ fixed_or x (of_byte other)
fixed_above x other f = grind (arith, nat_tests)

lessened_above : (n : Nvic) (x p : ℕ) → is_in n.active NMI ≡ false → 1 ≤ p → 1 ≤ raised_by n x p
lessened_above n x p f h =
    cond_both (is_in n.active x) _ _ (λ v. 1 ≤ v)
    (λ e. let above = fixed_above x (grouped n.group (slice_index n.priorities x)) (λ i. cc) in omega (arith, above, h))
    (λ e. h)

active_above : (n : Nvic) (k : ℕ) → is_in n.active NMI ≡ false → 1 ≤ highest_active n k
unfolding highest_active
active_above n zero f = omega arith
active_above n (suc k) f = lessened_above n k (highest_active n k) f (active_above n k f)

boosted_above : (n : Nvic) → 1 ≤ boosted n.group n.masks
boosted_above n = grind arith

priority_above : (n : Nvic) → is_in n.active NMI ≡ false → 1 ≤ execution_priority n
unfolding execution_priority
priority_above n f = let h = active_above n EXCEPTIONS f in let k = boosted_above n in omega (arith, h, k)

-- NMI is active: nothing preempts it
priority_least : (n : Nvic) → is_in n.active NMI ≡ true → execution_priority n ≡ 0
unfolding execution_priority
priority_least n e = let h = at_most_active n EXCEPTIONS NMI (omega arith) e in omega (arith, h)

-- a ready exception other than NMI has a group priority of -1 or more
ready_above : (n : Nvic) (y : ℕ) → is_in n.pending NMI ≡ false → IsPendingAndEnabled n y → 1 ≤ group_priority n y
ready_above n y f r = fixed_above y (grouped n.group (slice_index n.priorities y)) (λ i. none i r.ready)
  where
    none : y ≡ NMI → is_ready n y ≡ true → ⊥
    none i t = let wrong : is_ready n NMI ≡ true = subst (λ z. is_ready n z ≡ true) i t in cc

first_of_all : (n : Nvic) → is_in n.pending NMI ≡ true → IsBest n (Some NMI)
first_of_all n e = (record { in_range = omega arith; ready = ready }, λ y r. order y)
  where
    ready : is_ready n NMI ≡ true
    ready = rw e refl

    order : (y : ℕ) → (0 < priority_of n y) ⊎ ((0 ≡ priority_of n y) × (NMI ≤ y))
    order y = grind (arith, nat_tests)

abbrev pub nmi_over : Bool → Bool → Option ℕ
nmi_over pending active = if pending && not active then Some NMI else None

nmi_is : (n : Nvic) → execution_priority n ≤ 1 → IsCandidate n (nmi_over (is_in n.pending NMI) (is_in n.active NMI))
nmi_is n low = split (is_in n.pending NMI) (is_in n.active NMI) refl refl
  where
    split : (p a : Bool) → is_in n.pending NMI ≡ p → is_in n.active NMI ≡ a → IsCandidate n (nmi_over p a)
    split true true e f = λ y r. let h = priority_least n f in omega (arith, h)
    split true false e f = (first_of_all n e, let h = priority_above n f in omega (arith, h))
    split false true e f = λ y r. let h = priority_least n f in omega (arith, h)
    split false false e f = λ y r. let h = ready_above n y e r in omega (arith, h, low)

negative_low : (p : ℕ) → is_negative p ≡ true → p ≤ 1
negative_low p h = grind (arith, nat_tests)

open_below_zero : (n : Nvic) → is_below_zero n ≡ true → is_below_zero (unmask n) ≡ true
open_below_zero n h = below_zero (unmask n) ∙ sym (below_zero n) ∙ h

-- below 0 only NMI can be taken, and not while it's active
pub below_zero_nmi : (n : Nvic) → is_below_zero n ≡ true
    → candidate_unmasked n ≡ nmi_over (is_in n.pending NMI) (is_in n.active NMI)
unfolding candidate_unmasked
below_zero_nmi n h =
    let low = negative_low (execution_priority (unmask n)) (open_below_zero n h) in
    only_candidate (unmask n) (candidate (unmask n)) (nmi_over (is_in n.pending NMI) (is_in n.active NMI))
    (candidate_is (unmask n)) (nmi_is (unmask n) low)
