-- There is a candidate still where more exceptions become pending, and where a fault is taken.
use Rattle.std.proofs.Common.{◌≡◌, ℕ, ◌<◌, min, Bool, true, false, ◌&&◌, is_some, nat_lt, List, length}
use Rattle.std.proofs.Common.{slice_set, Option, Some, None, refl, ap, arith}
use Rattle.std.proofs.lemmas.Bool.{cond_both, and_parts, ltb-true, ltb-false, and_from}
use Rattle.std.proofs.lemmas.List.{get_or-set_same}
use Rattle.nvic.proofs.Best.{candidate_is}
use Rattle.nvic.proofs.Boards.{at_each}
use Rattle.nvic.proofs.Changes.{pended_kept}
use Rattle.nvic.proofs.Least.{highest_alike}
use Rattle.nvic.specs.Laws.{IsPendingAndEnabled, IsCandidate}
use Rattle.platform.specs.declared.exception.Escalation.{Escalation}
use Rattle.platform.specs.declared.exception.Escalation.TheVariants.{Itself, HardFault, Lockup}
use Rattle.platform.specs.declared.exception.TheConstants.{EXCEPTIONS, HARD_FAULT}
use Rattle.platform.specs.Priorities.{Nvic, is_in, is_enabled, is_exception, is_negative, group_priority}
use Rattle.platform.specs.Priorities.{boosted, execution_priority, candidate, with_pending, escalation}
use Rattle.platform.specs.System.{with_pended}

-- ---- there is a candidate

-- an exception preempts
record Preempts (n : Nvic) : Type 0 where
  number : ℕ
  ready : IsPendingAndEnabled n number
  above : group_priority n number < execution_priority n

-- there is a candidate
abbrev pub Calls : Nvic → Type 0
Calls n = is_some (candidate n) ≡ true

calls : (n : Nvic) → Preempts n → Calls n
calls n p = lead (candidate n) (candidate_is n)
  where
    lead : (o : Option ℕ) → IsCandidate n o → is_some o ≡ true
    lead (Some x) c = refl
    lead None c = let low = c p.number p.ready in let high = p.above in absurd (omega (arith, low, high))

preempts : (n : Nvic) → Calls n → Preempts n
preempts n h = lead (candidate n) (candidate_is n) h
  where
    lead : (o : Option ℕ) → IsCandidate n o → is_some o ≡ true → Preempts n
    lead (Some x) c e = record { number = x; ready = c.0.0; above = c.1 }
    lead None c e = absurd (let w : ⊥ = cc in w)

-- ---- more become pending

execution_kept : (n : Nvic) (p : List Bool) → execution_priority (record n { pending = p }) ≡ execution_priority n
unfolding execution_priority
execution_kept n p =
    ap (λ least. min least (boosted n.group n.masks)) (highest_alike n p n.enabled n.masks EXCEPTIONS)

grows : (s : List Bool) (x y : ℕ) → is_in s y ≡ true → is_in (slice_set s x true) y ≡ true
grows s x y = at_each (λ j b. is_in s j ≡ true → b ≡ true) s x true false (λ e. refl) (λ j e. e) y

preempts_with : (n : Nvic) (p : List Bool) → ((y : ℕ) → is_in n.pending y ≡ true → is_in p y ≡ true) → Preempts n →
    Preempts (record n { pending = p })
preempts_with n p more h = record {
  number = h.number;
  ready = record {
    in_range = h.ready.in_range;
    ready =
        let parts = and_parts (is_in n.pending h.number) (is_enabled n h.number) h.ready.ready in
        and_from _ _ (more h.number parts.0) parts.1;
  };
  above = rw (execution_kept n p) h.above;
}

pub pending_calls : (n : Nvic) (x : ℕ) → Calls n → Calls (with_pending n x true)
pending_calls n x h =
    cond_both (is_exception n.interrupts x) _ _ (λ p. Calls (record n { pending = p }))
    (λ e. calls _ (preempts_with n (slice_set n.pending x true) (λ y f. grows n.pending x y f) (preempts n h)))
    (λ e. calls _ (preempts_with n n.pending (λ y f. f) (preempts n h)))

pub pended_calls : (n : Nvic) (test : ℕ → Bool) → Calls n → Calls (with_pended n test)
pended_calls n test h = pended_kept Calls test (λ m x e. pending_calls m x) n h

-- ---- a fault

-- x, which is enabled and preempts, becomes pending
raised_calls : (n : Nvic) (x : ℕ) → length n.pending ≡ EXCEPTIONS → x < EXCEPTIONS → is_exception n.interrupts x ≡ true
    →
    is_enabled n x ≡ true → group_priority n x < execution_priority n → Calls (with_pending n x true)
raised_calls n x places small exists enabled above =
    cond_both (is_exception n.interrupts x) _ _ (λ p. Calls (record n { pending = p }))
    (λ e. calls _ (record {
      number = x;
      ready = record {
        in_range = small;
        ready = rw (get_or-set_same n.pending x true false (rw places small), enabled) refl;
      };
      above = rw (execution_kept n (slice_set n.pending x true)) above;
    }))
    (λ e. absurd (let w : ⊥ = cc in w))

-- what follows from an escalation
abbrev pub Follows : Nvic → ℕ → Escalation → Type 0
Follows n x Itself = Calls (with_pending n x true)
Follows n x HardFault = Calls (with_pending n HARD_FAULT true)
Follows n x Lockup = Unit {0}

pub escalation_follows : (n : Nvic) (x : ℕ) → length n.pending ≡ EXCEPTIONS → x < EXCEPTIONS →
    is_exception n.interrupts x ≡ true → Follows n x (escalation n x)
unfolding escalation
escalation_follows n x places small exists =
    cond_both (is_enabled n x && nat_lt (group_priority n x) (execution_priority n)) _ _ (Follows n x)
    (λ e. let h = and_parts _ _ e in
    raised_calls n x places small exists h.0 (ltb-true (group_priority n x) (execution_priority n) h.1))
    (λ e. cond_both (is_negative (execution_priority n)) _ _ (Follows n x) (λ f. tt)
    (λ f. raised_calls n HARD_FAULT places (omega arith) refl refl (ltb-false (execution_priority n) 2 f)))
