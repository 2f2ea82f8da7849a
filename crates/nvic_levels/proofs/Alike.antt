-- What a change leaves of the best exception, and of the least priority of the active ones.
use Rattle.std.proofs.Common.{◌≡◌, ℕ, zero, suc, Bool, true, false, ◌&&◌, ◌==◌, if◌then◌else◌, slice_set, refl}
use Rattle.std.proofs.Common.{ap, ◌∙◌}
use Rattle.std.proofs.Math.Bool.{and-false}
use Rattle.std.proofs.lemmas.Bool.{eqb-true, eqb-false, cond_both}
use Rattle.std.proofs.lemmas.List.{get_or-set_other}
use Rattle.platform.specs.declared.exception.Masks.{Masks}
use Rattle.platform.specs.declared.exception.TheConstants.{EXCEPTIONS}
use Rattle.platform.specs.Priorities.{Nvic, best, best_below, better_of, is_enabled, is_exception, is_in, is_ready}
use Rattle.platform.specs.Priorities.{can_be_disabled, highest_active, with_active, with_enabled}
use Rattle.platform.specs.Priorities.{with_group}
use Rattle.platform.specs.Priorities.{with_member, with_pending, with_ready}
use Rattle.nvic.proofs.Best.{best_alike}
use Rattle.nvic.proofs.Least.{highest_alike}

-- ---- the best

pub best_of_active : (n : Nvic) (x : ℕ) (on : Bool) → best (with_active n x on) ≡ best n
best_of_active n x on = best_alike n (with_member n.interrupts n.active x on) n.group n.masks

pub best_of_group : (n : Nvic) (g : ℕ) → best (with_group n g) ≡ best n
best_of_group n g = best_alike n n.active _ n.masks

pub best_of_masks : (n : Nvic) (m : Masks) → best (record n { masks = m }) ≡ best n
best_of_masks n m = best_alike n n.active n.group m

-- an exception that is disabled isn't the best, be it pending or not
same_ready : (n : Nvic) (x : ℕ) (on : Bool) (k : ℕ) → is_enabled n x ≡ false
    → is_ready (with_pending n x on) k ≡ is_ready n k
same_ready n x on k off = lead (k == x) refl
  where
    member : (k == x) ≡ false → is_in (with_member n.interrupts n.pending x on) k ≡ is_in n.pending k
    member e =
        cond_both (is_exception n.interrupts x) _ _ (λ s. is_in s k ≡ is_in n.pending k)
        (λ f. get_or-set_other n.pending x k on false (eqb-false k x e)) (λ f. refl)

    lead : (b : Bool) → (k == x) ≡ b → is_ready (with_pending n x on) k ≡ is_ready n k
    lead true e =
        let f : is_enabled n k ≡ false = ap (is_enabled n) (eqb-true k x e) ∙ off in
        rw (f, and-false (is_in (with_member n.interrupts n.pending x on) k), and-false (is_in n.pending k)) refl
    lead false e = ap (λ b. b && is_enabled n k) (member e)

best_below_idle : (n : Nvic) (x : ℕ) (on : Bool) (k : ℕ) → is_enabled n x ≡ false
    → best_below (with_pending n x on) k ≡ best_below n k
unfolding best_below with_ready
best_below_idle n x on zero off = refl
best_below_idle n x on (suc k) off =
    ap (λ b. if is_ready (with_pending n x on) k then better_of n b k else b) (best_below_idle n x on k off)
    ∙ ap (λ t. if t then better_of n (best_below n k) k else best_below n k) (same_ready n x on k off)

pub best_of_idle : (n : Nvic) (x : ℕ) (on : Bool) → is_enabled n x ≡ false → best (with_pending n x on) ≡ best n
unfolding best
best_of_idle n x on off = best_below_idle n x on EXCEPTIONS off

-- ---- the least priority of the active exceptions

pub least_of_pending : (n : Nvic) (x : ℕ) (on : Bool)
    → highest_active (with_pending n x on) EXCEPTIONS ≡ highest_active n EXCEPTIONS
least_of_pending n x on = highest_alike n (with_member n.interrupts n.pending x on) n.enabled n.masks EXCEPTIONS

pub least_of_enabled : (n : Nvic) (x : ℕ) (on : Bool)
    → highest_active (with_enabled n x on) EXCEPTIONS ≡ highest_active n EXCEPTIONS
least_of_enabled n x on =
    cond_both (can_be_disabled n.interrupts x) _ _
    (λ (m : Nvic). highest_active m EXCEPTIONS ≡ highest_active n EXCEPTIONS)
    (λ e. highest_alike n n.pending (slice_set n.enabled x on) n.masks EXCEPTIONS) (λ e. refl)

pub least_of_masks : (n : Nvic) (m : Masks)
    → highest_active (record n { masks = m }) EXCEPTIONS ≡ highest_active n EXCEPTIONS
least_of_masks n m = highest_alike n n.pending n.enabled m EXCEPTIONS
