-- The execution priority is the least of those at which something holds the machine.
use Rattle.std.proofs.Common.{◌≡◌, ℕ, zero, suc, ◌<◌, ◌≤◌, ◌⊎◌, ◌↔◌, inl, inr, min, Bool, true, false, ◌==◌}
use Rattle.std.proofs.Common.{List, refl, ap, arith, if◌then◌else◌}
use Rattle.std.proofs.lemmas.Bool.{cond_both, eqb-false}
use Rattle.std.proofs.lemmas.Bool.Decides.{nat_tests}
use Rattle.platform.specs.declared.exception.TheConstants.{EXCEPTIONS}
use Rattle.platform.specs.Priorities.{Nvic, hard_fault_priority, is_in, of_byte, grouped, lowest, group_priority}
use Rattle.platform.specs.Priorities.{raised_by, highest_active, boosted, execution_priority}
use Rattle.platform.specs.declared.exception.Masks.{Masks}
use Rattle.nvic.proofs.Best.{or_last}
use Rattle.nvic.specs.Laws.{LimitsExecution, IsLeast}
use Rattle.nvic.specs.Laws.LimitsExecution.{nothing, handler, basepri, primask, faultmask}

lesser_holds : (n : Nvic) (p q : ℕ) → LimitsExecution n p → LimitsExecution n q → LimitsExecution n (min p q)
lesser_holds n p q f g =
    let e : (min p q ≡ p) ⊎ (min p q ≡ q) = grind arith in
    elim e [ inl i ↦ rw i f | inr i ↦ rw i g ]

-- ---- the active exceptions

-- the least group priority of those below k, and of k if that is active
held_step : (n : Nvic) (k p : ℕ) → k < EXCEPTIONS → LimitsExecution n p → LimitsExecution n (raised_by n k p)
held_step n k p h f =
    cond_both (is_in n.active k) _ _ (LimitsExecution n)
    (λ e. lesser_holds n (group_priority n k) p (handler k h e refl) f) (λ e. f)

held : (n : Nvic) (k : ℕ) → k ≤ EXCEPTIONS → LimitsExecution n (highest_active n k)
unfolding highest_active
held n zero h = nothing refl
held n (suc k) h = held_step n k (highest_active n k) (omega arith) (held n k (omega arith))

lessened_le : (n : Nvic) (k p : ℕ) → raised_by n k p ≤ p
lessened_le n k p = grind arith

lessened_here : (n : Nvic) (k p : ℕ) → is_in n.active k ≡ true → raised_by n k p ≤ group_priority n k
lessened_here n k p e = rw e (omega arith)

pub at_most_lowest : (n : Nvic) (k : ℕ) → highest_active n k ≤ lowest
unfolding highest_active
at_most_lowest n zero = omega arith
at_most_lowest n (suc k) = let h = lessened_le n k (highest_active n k) in let i = at_most_lowest n k in
    omega (arith, h, i)

at_most_next : (n : Nvic) (k p : ℕ) → ((x : ℕ) → x < k → is_in n.active x ≡ true → p ≤ group_priority n x)
    → (x : ℕ) → x < suc k → is_in n.active x ≡ true → raised_by n k p ≤ group_priority n x
at_most_next n k p before =
    or_last (λ x. is_in n.active x ≡ true → raised_by n k p ≤ group_priority n x) k
    (λ x h e. let less = lessened_le n k p in let i = before x h e in omega (arith, less, i)) (lessened_here n k p)

pub at_most_active : (n : Nvic) (k x : ℕ) → x < k → is_in n.active x ≡ true → highest_active n k ≤ group_priority n x
unfolding highest_active
at_most_active n zero x h e = absurd (omega arith)
at_most_active n (suc k) x h e = at_most_next n k (highest_active n k) (at_most_active n k) x h e

-- it depends on neither the other sets nor the masks
pub highest_alike : (n : Nvic) (pending enabled : List Bool) (masks : Masks) (k : ℕ)
    → highest_active (record n { pending = pending; enabled = enabled; masks = masks }) k ≡ highest_active n k
unfolding highest_active
highest_alike n pending enabled masks zero = refl
highest_alike n pending enabled masks (suc k) = ap (raised_by n k) (highest_alike n pending enabled masks k)

-- ---- the masks

boosted_holds : (n : Nvic) → LimitsExecution n (boosted n.group n.masks)
boosted_holds n = split n.masks.faultmask n.masks.primask (n.masks.basepri == 0) refl refl refl
  where
    split : (f p none : Bool) → n.masks.faultmask ≡ f → n.masks.primask ≡ p → (n.masks.basepri == 0) ≡ none
        → LimitsExecution n (if f then hard_fault_priority else if p then of_byte 0 else if none then lowest
        else of_byte (grouped n.group n.masks.basepri))
    split true p none e f g = faultmask e refl
    split false true none e f g = primask f refl
    split false false true e f g = nothing refl
    split false false false e f g = basepri (eqb-false n.masks.basepri 0 g) refl

-- the priority of the masks, over their bits and over BASEPRI's group
abbrev masked : Bool → Bool → Bool → ℕ → ℕ
masked f p none g = if f then hard_fault_priority else if p then of_byte 0 else if none then lowest else of_byte g

under_faultmask : (f p none : Bool) (g : ℕ) → f ≡ true → masked f p none g ≤ hard_fault_priority
under_faultmask f p none g e = grind arith

under_primask : (f p none : Bool) (g : ℕ) → p ≡ true → masked f p none g ≤ of_byte 0
under_primask f p none g e = grind arith

under_basepri : (f p none : Bool) (g : ℕ) → none ≡ false → masked f p none g ≤ of_byte g
under_basepri f p none g e = grind arith

-- ---- both

below_each : (n : Nvic) (q : ℕ) → LimitsExecution n q → (highest_active n EXCEPTIONS ≤ q)
    ⊎ (boosted n.group n.masks ≤ q)
below_each n q (nothing e) = let h = at_most_lowest n EXCEPTIONS in inl (omega (arith, h, e))
below_each n q (handler x h a e) = let i = at_most_active n EXCEPTIONS x h a in inl (omega (arith, i, e))
below_each n q (basepri some e) =
    let none : (n.masks.basepri == 0) ≡ false = grind (arith, nat_tests) in
    let h = under_basepri n.masks.faultmask n.masks.primask (n.masks.basepri == 0) (grouped n.group n.masks.basepri)
    none in
    inr (omega (arith, h, e))
below_each n q (primask on e) =
    let h = under_primask n.masks.faultmask n.masks.primask (n.masks.basepri == 0) (grouped n.group n.masks.basepri) on
    in inr (omega (arith, h, e))
below_each n q (faultmask on e) =
    let h = under_faultmask n.masks.faultmask n.masks.primask (n.masks.basepri == 0) (grouped n.group n.masks.basepri)
    on in inr (omega (arith, h, e))

-- the execution priority is the least at which something holds the machine
least_is : (n : Nvic) → IsLeast n (execution_priority n)
unfolding execution_priority
least_is n = record {
  holds = lesser_holds n (highest_active n EXCEPTIONS) (boosted n.group n.masks) (held n EXCEPTIONS (omega arith))
      (boosted_holds n);
  least = λ q h. elim (below_each n q h) [ inl i ↦ omega (arith, i) | inr i ↦ omega (arith, i) ];
}

-- it alone is
pub least_exactly : (n : Nvic) (p : ℕ) → IsLeast n p ↔ (p ≡ execution_priority n)
least_exactly n p = (only, λ e. rw e (least_is n))
  where
    only : IsLeast n p → p ≡ execution_priority n
    only f =
        let g = least_is n in
        let i = f.least (execution_priority n) g.holds in
        let j = g.least p f.holds in
        omega (arith, i, j)
