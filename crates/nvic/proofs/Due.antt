-- What is pending after all that are due have become so.
use Rattle.std.proofs.Common.{◌≡◌, ℕ, zero, suc, ◌<◌, ◌≤◌, Bool, true, false, ◌&&◌, ◌||◌, if◌then◌else◌, List, length}
use Rattle.std.proofs.Common.{set, refl, sym, ◌∙◌, ap, arith}
use Rattle.std.proofs.Math.Bool.{or-true, or-false}
use Rattle.std.proofs.lemmas.Bool.{cond_both, both_ways}
use Rattle.std.proofs.lemmas.List.{length-set, get_or-set_same, get_or-set_other}
use Rattle.platform.specs.declared.exception.TheConstants.{EXCEPTIONS}
use Rattle.platform.specs.Priorities.{Nvic, is_in, is_in_words, is_exception, with_pending, with_due_at}
use Rattle.platform.specs.Priorities.{with_due_below}
use Rattle.platform.specs.Priorities.{with_due}
use Rattle.platform.specs.System.{with_pended_at, with_pended_below, with_pended}
use Rattle.platform.specs.Time.{IsSetOf}
use Rattle.nvic.proofs.Best.{or_last}
use Rattle.nvic.proofs.Changes.{pended_kept}
use Rattle.nvic.specs.Laws.{AddsDue}

-- ---- one exception, over the values of the two tests

abbrev put : List Bool → ℕ → Bool → Bool → List Bool
put s x due exists = if due then (if exists then set s x true else s) else s

put_length : (s : List Bool) (x : ℕ) (due exists : Bool) → length (put s x due exists) ≡ length s
put_length s x true true = length-set s x true
put_length s x true false = refl
put_length s x false exists = refl

put_here : (s : List Bool) (x : ℕ) (due exists : Bool) → x < length s
    → is_in (put s x due exists) x ≡ (is_in s x || (due && exists))
put_here s x true true h = get_or-set_same s x true false h ∙ sym (or-true (is_in s x))
put_here s x true false h = sym (or-false (is_in s x))
put_here s x false exists h = sym (or-false (is_in s x))

put_other : (s : List Bool) (x y : ℕ) (due exists : Bool) → (y ≡ x → ⊥) → is_in (put s x due exists) y ≡ is_in s y
put_other s x y true true h = get_or-set_other s x y true false h
put_other s x y true false h = refl
put_other s x y false exists h = refl

at_pending : (n : Nvic) (due : List ℕ) (x : ℕ)
    → (with_due_at n due x).pending ≡ put n.pending x (is_in_words due x) (is_exception n.interrupts x)
unfolding with_due_at
at_pending n due x = split (is_in_words due x)
  where
    split : (b : Bool) → (if b then with_pending n x true else n).pending
        ≡ put n.pending x b (is_exception n.interrupts x)
    split true = refl
    split false = refl

at_rest : (n : Nvic) (due : List ℕ) (x : ℕ) → with_due_at n due x ≡ record n { pending = (with_due_at n due x).pending }
unfolding with_due_at
at_rest n due x =
    cond_both (is_in_words due x) _ _ (λ (w : Nvic). w ≡ record n { pending = w.pending }) (λ e. refl) (λ e. refl)

-- ---- all below one

pended_below : (n : Nvic) (due : List ℕ) (test : ℕ → Bool) → IsSetOf due test → (x : ℕ) → x ≤ 256
    → with_due_below n due x ≡ with_pended_below n test x
unfolding with_due_below with_due_at with_pended_below with_pended_at
pended_below n due test same zero within = refl
pended_below n due test same (suc x) within =
    let before = pended_below n due test same x (omega arith) in
    let here = same x (omega arith) in
    rw (before, here) refl

-- the eight words of a set make pending what its test makes pending
pub due_is_pended : (n : Nvic) (due : List ℕ) (test : ℕ → Bool) → IsSetOf due test → with_due n due ≡ with_pended n test
unfolding with_due with_pended
due_is_pended n due test same = pended_below n due test same 256 (omega arith)

-- where nothing is due, nothing becomes pending
pub nothing_is_pended : (n : Nvic) (test : ℕ → Bool) → ((x : ℕ) → test x ≡ false) → with_pended n test ≡ n
nothing_is_pended n test none =
    pended_kept (λ m. m ≡ n) test (λ m x e same. absurd (both_ways _ (none x) e)) n refl

below_rest : (n : Nvic) (due : List ℕ) (k : ℕ)
    → with_due_below n due k ≡ record n { pending = (with_due_below n due k).pending }
unfolding with_due_below
below_rest n due zero = refl
below_rest n due (suc k) =
    let m = with_due_below n due k in
    at_rest m due k ∙ ap (λ (w : Nvic). record w { pending = (with_due_at m due k).pending }) (below_rest n due k)

below_interrupts : (n : Nvic) (due : List ℕ) (k : ℕ) → (with_due_below n due k).interrupts ≡ n.interrupts
below_interrupts n due k = ap (λ (w : Nvic). w.interrupts) (below_rest n due k)

below_length : (n : Nvic) (due : List ℕ) (k : ℕ) → length (with_due_below n due k).pending ≡ length n.pending
unfolding with_due_below
below_length n due zero = refl
below_length n due (suc k) =
    let m = with_due_below n due k in
    ap length (at_pending m due k)
    ∙ put_length m.pending k (is_in_words due k) (is_exception m.interrupts k)
    ∙ below_length n due k

-- those from k upward are left
below_left : (n : Nvic) (due : List ℕ) (k y : ℕ) → k ≤ y → is_in (with_due_below n due k).pending y ≡ is_in n.pending y
unfolding with_due_below
below_left n due zero y h = refl
below_left n due (suc k) y h =
    let m = with_due_below n due k in
    let apart : y ≡ k → ⊥ = λ e. omega arith in
    ap (λ s. is_in s y) (at_pending m due k)
    ∙ put_other m.pending k y (is_in_words due k) (is_exception m.interrupts k) apart
    ∙ below_left n due k y (omega arith)

abbrev after : Nvic → List ℕ → ℕ → Bool
after n due y = is_in n.pending y || (is_in_words due y && is_exception n.interrupts y)

-- k is looked at
below_here : (n : Nvic) (due : List ℕ) (k : ℕ) → k < length n.pending
    → is_in (with_due_below n due (suc k)).pending k ≡ after n due k
unfolding with_due_below
below_here n due k h =
    let m = with_due_below n due k in
    let long = below_length n due k in
    let room : k < length m.pending = omega (arith, long) in
    ap (λ s. is_in s k) (at_pending m due k)
    ∙ put_here m.pending k (is_in_words due k) (is_exception m.interrupts k) room
    ∙ ap (λ b. b || (is_in_words due k && is_exception m.interrupts k)) (below_left n due k k (omega arith))
    ∙ ap (λ l. is_in n.pending k || (is_in_words due k && is_exception l k)) (below_interrupts n due k)

kept_below : (n : Nvic) (due : List ℕ) (k y : ℕ) → y < k
    → is_in (with_due_below n due (suc k)).pending y ≡ is_in (with_due_below n due k).pending y
unfolding with_due_below
kept_below n due k y h =
    let m = with_due_below n due k in
    let apart : y ≡ k → ⊥ = λ e. omega arith in
    ap (λ s. is_in s y) (at_pending m due k)
    ∙ put_other m.pending k y (is_in_words due k) (is_exception m.interrupts k) apart

-- those below k are as they should be
below_done : (n : Nvic) (due : List ℕ) (k : ℕ) → k ≤ length n.pending
    → (y : ℕ) → y < k → is_in (with_due_below n due k).pending y ≡ after n due y
below_done n due zero room = λ y h. absurd (omega arith)
below_done n due (suc k) room =
    or_last (λ y. is_in (with_due_below n due (suc k)).pending y ≡ after n due y) k
    (λ y h. kept_below n due k y h ∙ below_done n due k (omega arith) y h) (below_here n due k (omega arith))

pub adds_due : (n : Nvic) (due : List ℕ) → length n.pending ≡ EXCEPTIONS → AddsDue n due (with_due n due)
unfolding with_due
adds_due n due e = record {
  pending = below_done n due EXCEPTIONS (omega (arith, e));
  rest = below_rest n due EXCEPTIONS;
}
