-- The best of the exceptions that are pending and enabled, and the candidate.
use Rattle.std.proofs.Common.{◌≡◌, ℕ, zero, suc, ◌+◌, ◌*◌, ◌/◌, ◌^◌, ◌<◌, ◌≤◌, ◌⊎◌, ◌↔◌, inr, Bool, true, false, nat_lt}
use Rattle.std.proofs.Common.{if◌then◌else◌, slice_index, Option, Some, None, refl, subst, ap, arith, below_more, List}
use Rattle.std.proofs.Math.Nat.{div-mul-le_self, mul-le-mul_right}
use Rattle.std.proofs.lemmas.Nat.{le-div, pow_pos}
use Rattle.std.proofs.lemmas.Bool.{cond_both, ltb-true, ltb-false}
use Rattle.std.proofs.lemmas.Bool.Decides.{nat_tests}
use Rattle.platform.specs.declared.exception.TheConstants.{EXCEPTIONS}
use Rattle.platform.specs.Priorities.{Nvic, is_ready, priority_of, group_priority, execution_priority, better_of}
use Rattle.platform.specs.Priorities.{with_ready, best_below, best, candidate, grouped, fixed_or, of_byte, if_preempts}
use Rattle.platform.specs.declared.exception.Masks.{Masks}
use Rattle.nvic.specs.Laws.{IsBest, IsCandidate}

-- the same, of the exceptions below k, for any test and any key
abbrev Precedes : (ℕ → ℕ) → ℕ → ℕ → Type 0
Precedes key x y = (key x < key y) ⊎ ((key x ≡ key y) × (x ≤ y))

abbrev IsFirst : (ℕ → Bool) → (ℕ → ℕ) → ℕ → Option ℕ → Type 0
IsFirst test key k (Some x) = (x < k) × (test x ≡ true) × ((y : ℕ) → y < k → test y ≡ true → Precedes key x y)
IsFirst test key k None = (y : ℕ) → y < k → test y ≡ true → ⊥

-- what holds of each number below k and of k holds of each below the next
pub or_last : (P : ℕ → Type 0) (k : ℕ) → ((y : ℕ) → y < k → P y) → P k → (y : ℕ) → y < suc k → P y
or_last P k below here y h = below_more P k below here y (omega arith)

abbrev better : (ℕ → ℕ) → Option ℕ → ℕ → Option ℕ
better key None k = Some k
better key (Some x) k = if nat_lt (key k) (key x) then Some k else Some x

taken : (test : ℕ → Bool) (key : ℕ → ℕ) (k : ℕ) (o : Option ℕ)
    → IsFirst test key k o → test k ≡ true → IsFirst test key (suc k) (better key o k)
taken test key k None before here = (
  omega arith,
  here,
  or_last (λ y. test y ≡ true → Precedes key k y) k
      (λ y h t. absurd (before y h t)) (λ _. inr (refl, omega arith)),
)
taken test key k (Some x) before here = lead (nat_lt (key k) (key x)) refl
  where
    lead : (less : Bool) → nat_lt (key k) (key x) ≡ less → IsFirst test key (suc k) (if less then Some k else Some x)
    lead true e = (
      omega arith,
      here,
      or_last (λ y. test y ≡ true → Precedes key k y) k
          (λ y h t. let p = before.2 y h t in grind (arith, nat_tests)) (λ _. inr (refl, omega arith)),
    )
    lead false e = (
      omega arith,
      before.1,
      or_last (λ y. test y ≡ true → Precedes key x y) k before.2
          (λ _. grind (arith, nat_tests)),
    )

left : (test : ℕ → Bool) (key : ℕ → ℕ) (k : ℕ) (o : Option ℕ)
    → IsFirst test key k o → test k ≡ false → IsFirst test key (suc k) o
left test key k None before here = or_last (λ y. test y ≡ true → ⊥) k before (λ t. cc)
left test key k (Some x) before here =
    (omega arith, before.1, or_last (λ y. test y ≡ true → Precedes key x y) k before.2 (λ t. absurd cc))

-- ---- the exceptions

ready_step : (n : Nvic) (k : ℕ) (o : Option ℕ)
    → IsFirst (is_ready n) (priority_of n) k o → IsFirst (is_ready n) (priority_of n) (suc k) (with_ready n k o)
unfolding with_ready
ready_step n k o before = split (is_ready n k) refl o before
  where
    split : (b : Bool) → is_ready n k ≡ b → (o : Option ℕ) → IsFirst (is_ready n) (priority_of n) k o
        → IsFirst (is_ready n) (priority_of n) (suc k) (if b then better_of n o k else o)
    split true e None before = taken (is_ready n) (priority_of n) k None before e
    split true e (Some x) before = taken (is_ready n) (priority_of n) k (Some x) before e
    split false e o before = left (is_ready n) (priority_of n) k o before e

first_below : (n : Nvic) (k : ℕ) → IsFirst (is_ready n) (priority_of n) k (best_below n k)
unfolding best_below
first_below n zero = λ y h t. absurd (omega arith)
first_below n (suc k) = ready_step n k (best_below n k) (first_below n k)

best_of_first : (n : Nvic) (o : Option ℕ) → IsFirst (is_ready n) (priority_of n) EXCEPTIONS o → IsBest n o
best_of_first n None f = λ y r. f y r.in_range r.ready
best_of_first n (Some x) f = (record { in_range = f.0; ready = f.1 }, λ y r. f.2 y r.in_range r.ready)

-- the best is the best
best_is : (n : Nvic) → IsBest n (best n)
unfolding best
best_is n = best_of_first n (best_below n EXCEPTIONS) (first_below n EXCEPTIONS)

-- and two that are best are one
only_best : (n : Nvic) (o p : Option ℕ) → IsBest n o → IsBest n p → o ≡ p
only_best n None None f g = refl
only_best n None (Some y) f g = absurd (f y g.0)
only_best n (Some x) None f g = absurd (g x f.0)
only_best n (Some x) (Some y) f g =
    let p = f.1 y g.0 in
    let q = g.1 x f.0 in
    let e : x ≡ y = omega (arith, p, q) in
    rw e

-- ---- the candidate

-- rounding down keeps the order
grouped_order : (group a b : ℕ) → a ≤ b → grouped group a ≤ grouped group b
grouped_order group a b h =
    let d = 2 ^ (group + 1) in
    let fits : a / d * d ≤ b = omega (arith, div-mul-le_self a d) in
    mul-le-mul_right d (le-div (a / d) b d (pow_pos (group + 1)) fits)

fixed_order : (x y a b c d : ℕ) → (a ≤ b → c ≤ d) → fixed_or x (of_byte a) ≤ fixed_or y (of_byte b)
    → fixed_or x (of_byte c) ≤ fixed_or y (of_byte d)
fixed_order x y a b c d f h = grind (arith, nat_tests)

group_order : (n : Nvic) (x y : ℕ) → priority_of n x ≤ priority_of n y → group_priority n x ≤ group_priority n y
group_order n x y h =
    let a = slice_index n.priorities x in
    let b = slice_index n.priorities y in
    fixed_order x y a b (grouped n.group a) (grouped n.group b) (grouped_order n.group a b) h

preempting : (n : Nvic) (o : Option ℕ) → IsBest n o → IsCandidate n (if_preempts n o)
preempting n None f = λ y r. absurd (f y r)
preempting n (Some x) f =
    cond_both (nat_lt (group_priority n x) (execution_priority n)) _ _ (IsCandidate n)
    (λ e. (f, ltb-true (group_priority n x) (execution_priority n) e))
    (λ e y r.
    let above : execution_priority n ≤ group_priority n x =
    ltb-false (group_priority n x) (execution_priority n) e in
    let first = f.1 y r in
    let order : priority_of n x ≤ priority_of n y = omega (arith, first) in
    let more = group_order n x y order in
    omega (arith, above, more))

-- the candidate is the best exception, where it preempts
pub candidate_is : (n : Nvic) → IsCandidate n (candidate n)
unfolding candidate
candidate_is n = preempting n (best n) (best_is n)

-- and two candidates are one
pub only_candidate : (n : Nvic) (o p : Option ℕ) → IsCandidate n o → IsCandidate n p → o ≡ p
only_candidate n None None f g = refl
only_candidate n None (Some y) f g = let h = f y g.0.0 in let k = g.1 in absurd (omega (arith, h, k))
only_candidate n (Some x) None f g = let h = g x f.0.0 in let k = f.1 in absurd (omega (arith, h, k))
only_candidate n (Some x) (Some y) f g = only_best n (Some x) (Some y) f.0 g.0

-- the best exception depends on neither the active ones nor PRIGROUP and the masks
best_below_alike : (n : Nvic) (active : List Bool) (group : ℕ) (masks : Masks) (k : ℕ)
    → best_below (record n { active = active; group = group; masks = masks }) k ≡ best_below n k
unfolding best_below with_ready
best_below_alike n active group masks zero = refl
best_below_alike n active group masks (suc k) = ap (λ o. with_ready n k o) (best_below_alike n active group masks k)

pub best_alike : (n : Nvic) (active : List Bool) (group : ℕ) (masks : Masks)
    → best (record n { active = active; group = group; masks = masks }) ≡ best n
unfolding best
best_alike n active group masks = best_below_alike n active group masks EXCEPTIONS

-- the number of the best exception is one that an exception can have
pub best_small : (n : Nvic) (x : ℕ) → best n ≡ Some x → x < EXCEPTIONS
best_small n x e = (subst (IsBest n) e (best_is n)).0.in_range

-- ---- they alone are

pub best_exactly : (n : Nvic) (o : Option ℕ) → IsBest n o ↔ (o ≡ best n)
best_exactly n o = (λ f. only_best n o (best n) f (best_is n), λ e. rw e (best_is n))

pub candidate_exactly : (n : Nvic) (o : Option ℕ) → IsCandidate n o ↔ (o ≡ candidate n)
candidate_exactly n o = (λ f. only_candidate n o (candidate n) f (candidate_is n), λ e. rw e (candidate_is n))
