-- One exception more becomes pending: an interrupt that rises after others.
use Rattle.std.proofs.Common.{◌≡◌, ◌≢◌, ◌⊎◌, ℕ, zero, suc, ◌+◌, ◌<◌, ◌≤◌, Bool, true, false, ◌||◌, ◌==◌, List}
use Rattle.std.proofs.Common.{slice_set, if◌then◌else◌, refl, sym, ◌∙◌, ap, arith, subst, inl, inr}
use Rattle.std.proofs.Math.Nat.{eq-or-lt_of_le}
use Rattle.std.proofs.lemmas.Bool.Decides.{nat_tests}
use Rattle.std.proofs.lemmas.List.{set-set, set_comm}
use Rattle.platform.specs.declared.script.Signal.TheVariants.{Rise}
use Rattle.platform.specs.Priorities.{Nvic, is_exception, is_in_words, with_due, with_member, with_pending}
use Rattle.platform.specs.System.{with_pended, with_pended_at, with_pended_below}
use Rattle.platform.specs.Time.{interrupt_exception, pends}
use Rattle.nvic.proofs.Due.{due_is_pended}

-- ---- two members of a set

member_again : (k x : ℕ) (s : List Bool) → with_member k (with_member k s x true) x true ≡ with_member k s x true
member_again k x s = by (is_exception k x)
  where
    by : (b : Bool) →
        (if b then slice_set (if b then slice_set s x true else s) x true else (if b then slice_set s x true else s))
        ≡ (if b then slice_set s x true else s)
    by true = set-set s x true true
    by false = refl

member_swap : (k x y : ℕ) (s : List Bool) → x ≢ y →
    with_member k (with_member k s x true) y true ≡ with_member k (with_member k s y true) x true
member_swap k x y s apart = by (is_exception k x) (is_exception k y)
  where
    by : (b c : Bool) →
        (if c then slice_set (if b then slice_set s x true else s) y true else (if b then slice_set s x true else s))
        ≡ (if b then slice_set (if c then slice_set s y true else s) x true
        else (if c then slice_set s y true else s))
    by true true = set_comm s x y true true apart
    by true false = refl
    by false true = refl
    by false false = refl

pending_again : (n : Nvic) (x : ℕ) → with_pending (with_pending n x true) x true ≡ with_pending n x true
pending_again n x = ap (λ (s : List Bool). record n { pending = s }) (member_again n.interrupts x n.pending)

pending_swap : (n : Nvic) (x y : ℕ) → x ≢ y →
    with_pending (with_pending n x true) y true ≡ with_pending (with_pending n y true) x true
pending_swap n x y apart =
    ap (λ (s : List Bool). record n { pending = s }) (member_swap n.interrupts x y n.pending apart)

-- ---- one more than a test says

abbrev or_one : ℕ → (ℕ → Bool) → ℕ → Bool
or_one x test y = (y == x) || test y

other_test : (x y : ℕ) (b : Bool) → x ≢ y → ((y == x) || b) ≡ b
other_test x y b apart = by (y == x) refl
  where
    by : (e : Bool) → (y == x) ≡ e → (e || b) ≡ b
    by true e = let same : x ≡ y = grind (arith, nat_tests, e) in absurd (apart same)
    by false e = refl

same_test : (x : ℕ) (b : Bool) → ((x == x) || b) ≡ true
same_test x b = let e : (x == x) ≡ true = grind (arith, nat_tests) in rw e refl

not_yet : (n : Nvic) (test : ℕ → Bool) (x k : ℕ) → k ≤ x →
    with_pended_below n (or_one x test) k ≡ with_pended_below n test k
unfolding with_pended_below with_pended_at
not_yet n test x zero h = refl
not_yet n test x (suc k) h =
    let before = not_yet n test x k (omega arith) in
    let apart : x ≢ k = λ e. omega arith in
    rw (before, other_test x k (test k) apart) refl

from_then : (n : Nvic) (test : ℕ → Bool) (x k : ℕ) → x < k →
    with_pended_below n (or_one x test) k ≡ with_pending (with_pended_below n test k) x true
unfolding with_pended_below with_pended_at
from_then n test x zero h = absurd (omega arith)
from_then n test x (suc k) h =
    let within : x ≤ k = omega arith in
    elim (eq-or-lt_of_le within) [
      | inl e ↦ subst (λ k. with_pended_below n (or_one x test) (suc k)
          ≡ with_pending (with_pended_below n test (suc k)) x true) e (now (test x))
      | inr later ↦ rw (from_then n test x k later, other_test x k (test k) (λ e. omega arith)) (after (test k) later)
    ]
  where
    now : (b : Bool) → with_pended_below n (or_one x test) (suc x)
        ≡ with_pending (with_pended_below n test (suc x)) x true
    now b = rw (not_yet n test x x (omega arith), same_test x (test x)) (both (test x))
      where
        both : (b : Bool) → with_pending (with_pended_below n test x) x true
            ≡ with_pending (if b then with_pending (with_pended_below n test x) x true
            else with_pended_below n test x) x true
        both true = sym (pending_again (with_pended_below n test x) x)
        both false = refl

    after : (b : Bool) → x < k →
        (if b then with_pending (with_pending (with_pended_below n test k) x true) k true
        else with_pending (with_pended_below n test k) x true)
        ≡ with_pending (if b then with_pending (with_pended_below n test k) k true
        else with_pended_below n test k) x true
    after true later = pending_swap (with_pended_below n test k) x k (λ e. omega arith)
    after false later = refl

adding : (n : Nvic) (test : ℕ → Bool) (x : ℕ) → x < 256 →
    with_pended n (or_one x test) ≡ with_pending (with_pended n test) x true
unfolding with_pended
adding n test x small = from_then n test x 256 small

-- ---- one alone

not_alone : (n : Nvic) (x k : ℕ) → k ≤ x → with_pended_below n (λ y. y == x) k ≡ n
unfolding with_pended_below with_pended_at
not_alone n x zero h = refl
not_alone n x (suc k) h =
    let before = not_alone n x k (omega arith) in
    let other : (k == x) ≡ false = grind (arith, nat_tests, h) in
    rw (before, other) refl

alone : (n : Nvic) (x k : ℕ) → x < k → with_pended_below n (λ y. y == x) k ≡ with_pending n x true
unfolding with_pended_below with_pended_at
alone n x zero h = absurd (omega arith)
alone n x (suc k) h =
    let within : x ≤ k = omega arith in
    elim (eq-or-lt_of_le within) [
      | inl e ↦ subst (λ k. with_pended_below n (λ y. y == x) (suc k) ≡ with_pending n x true) e now
      | inr later ↦
          (let other : (k == x) ≡ false = grind (arith, nat_tests, later) in
          rw (alone n x k later, other) refl)
    ]
  where
    now : with_pended_below n (λ y. y == x) (suc x) ≡ with_pending n x true
    now =
        let same : (x == x) ≡ true = grind (arith, nat_tests) in
        rw (not_alone n x x (omega arith), same) refl

pended_alone : (m : Nvic) (x : ℕ) → x < 256 → with_pended m (λ y. y == x) ≡ with_pending m x true
unfolding with_pended
pended_alone m x within = alone m x 256 within

-- ---- an interrupt that rises after those of a set

pub rise_is_put : (n : Nvic) (due more : List ℕ) (i : ℕ) → i < 240 →
    ((y : ℕ) → y < 256 → is_in_words more y ≡ (pends (Rise i) y || is_in_words due y)) →
    with_due n more ≡ with_pended (with_due n due) (pends (Rise i))
rise_is_put n due more i small same =
    let within : interrupt_exception i < 256 = omega arith in
    due_is_pended n more (or_one (interrupt_exception i) (is_in_words due)) same
    ∙ adding n (is_in_words due) (interrupt_exception i) within
    ∙ ap (λ (m : Nvic). with_pending m (interrupt_exception i) true)
    (sym (due_is_pended n due (is_in_words due) (λ y h. refl)))
    ∙ sym (pended_alone (with_due n due) (interrupt_exception i) within)
