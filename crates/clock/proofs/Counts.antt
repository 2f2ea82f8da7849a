-- The counter after many counts is the counter after one more than one fewer.
use Rattle.std.proofs.Common.{◌≡◌, ℕ, ◌+◌, ◌-◌, ◌%◌, ◌<◌, ◌≤◌, ◌⊎◌, Bool, true, false, ◌==◌, nat_le, if◌then◌else◌}
use Rattle.std.proofs.Common.{arith, refl, sym, ap, ◌∙◌, inl, inr, add-one}
use Rattle.std.proofs.Math.Nat.{suc-mod, mod_self, mod-eq_of_lt, zero-mod}
use Rattle.std.proofs.lemmas.Bool.{cases_lt, cond_both}
use Rattle.std.proofs.lemmas.Bool.Decides.{nat_tests}
use Rattle.clock.specs.AfterTicks.{from_zero, current_after, after_ticks}
use Rattle.platform.specs.Time.{SysTick, next_current}

-- one count of the counter
abbrev counted_once : ℕ → ℕ → ℕ
counted_once reload current = if current == 0 then reload else current - 1

-- over the remainder p and the one after it
from_zero_next : (reload p q : ℕ) → p < reload + 1 → ((q ≡ p + 1) × (p < reload)) ⊎ ((q ≡ 0) × (p ≡ reload))
    → (if q == 0 then 0 else reload + 1 - q) ≡ counted_once reload (if p == 0 then 0 else reload + 1 - p)
from_zero_next reload p q small (inl next) = let e = next.0 in let f = next.1 in grind (arith, nat_tests)
from_zero_next reload p q small (inr wraps) = let e = wraps.0 in let f = wraps.1 in grind (arith, nat_tests)

remainder_next : (reload n : ℕ)
    → (((n + 1) % (reload + 1) ≡ n % (reload + 1) + 1) × (n % (reload + 1) < reload))
    ⊎ (((n + 1) % (reload + 1) ≡ 0) × (n % (reload + 1) ≡ reload))
remainder_next reload n = lead (cases_lt (n % (reload + 1)) reload)
  where
    small : n % (reload + 1) < reload + 1
    small = omega arith

    step : (n + 1) % (reload + 1) ≡ (n % (reload + 1) + 1) % (reload + 1)
    step =
        ap (λ k. k % (reload + 1)) (add-one n)
        ∙ suc-mod n (reload + 1)
        ∙ ap (λ k. k % (reload + 1)) (sym (add-one (n % (reload + 1))))

    lead : ((n % (reload + 1) < reload) ⊎ (reload ≤ n % (reload + 1)))
        → (((n + 1) % (reload + 1) ≡ n % (reload + 1) + 1) × (n % (reload + 1) < reload))
        ⊎ (((n + 1) % (reload + 1) ≡ 0) × (n % (reload + 1) ≡ reload))
    lead (inl under) = inl (
      step ∙ mod-eq_of_lt (let wide : n % (reload + 1) + 1 < reload + 1 = omega arith in wide),
      under,
    )
    lead (inr over) =
        let s = small in
        let e : n % (reload + 1) ≡ reload = omega (arith, s, over) in
        inr (step ∙ ap (λ p. (p + 1) % (reload + 1)) e ∙ mod_self (reload + 1), e)

-- a counter that has just fallen to 0
at_zero : (reload : ℕ) → from_zero reload 0 ≡ 0
at_zero reload = rw (zero-mod (reload + 1)) refl

fallen : (reload current : ℕ) → current_after reload current current ≡ from_zero reload (current - current)
fallen reload current = let z : current - current ≡ 0 = omega arith in rw z (both (nat_le current current))
  where
    both : (b : Bool) → (if b then 0 else from_zero reload 0) ≡ from_zero reload 0
    both true = sym (at_zero reload)
    both false = refl

current_next : (reload current n : ℕ)
    → current_after reload current (n + 1) ≡ counted_once reload (current_after reload current n)
current_next reload current n = lead (cases_lt n current)
  where
    falls : n < current → current_after reload current (n + 1) ≡ counted_once reload (current_after reload current n)
    falls h = grind (arith, nat_tests)

    lead : ((n < current) ⊎ (current ≤ n))
        → current_after reload current (n + 1) ≡ counted_once reload (current_after reload current n)
    lead (inl h) = falls h
    lead (inr h) = counts h
      where
        past : (m : ℕ) → current ≤ m → current_after reload current m ≡ from_zero reload (m - current)
        past m k = split (cases_lt current m)
          where
            split : ((current < m) ⊎ (m ≤ current)) → current_after reload current m ≡ from_zero reload (m - current)
            split (inl over) = grind (arith, nat_tests)
            split (inr same) = let e : m ≡ current = omega arith in rw e (fallen reload current)

        counts : current ≤ n → current_after reload current (n + 1)
            ≡ counted_once reload (current_after reload current n)
        counts k =
            let e : n + 1 - current ≡ n - current + 1 = omega arith in
            past (n + 1) (omega arith)
            ∙ ap (from_zero reload) e
            ∙ from_zero_next reload ((n - current) % (reload + 1)) ((n - current + 1) % (reload + 1)) (omega arith)
            (remainder_next reload (n - current))
            ∙ ap (counted_once reload) (sym (past n k))

-- SysTick, whether it's enabled or not
pub after_next_tick : (t : SysTick) (n : ℕ)
    → after_ticks t (n + 1) ≡ record (after_ticks t n) { current = next_current (after_ticks t n) }
after_next_tick t n = ap (λ (c : ℕ). record t { current = c }) (split t.enable)
  where
    split : (on : Bool) → (if on then current_after t.reload t.current (n + 1) else t.current)
        ≡ (if on then counted_once t.reload (if on then current_after t.reload t.current n else t.current)
        else (if on then current_after t.reload t.current n else t.current))
    split true = current_next t.reload t.current n
    split false = refl

pub after_no_ticks : (t : SysTick) → after_ticks t 0 ≡ t
after_no_ticks t =
    ap (λ (c : ℕ). record t { current = c })
    (cond_both t.enable _ _ (λ c. c ≡ t.current) (λ e. grind (arith, nat_tests)) (λ e. refl))

-- the next tick after some ticks since another one
pub after_tick_since : (t : SysTick) (since now : ℕ) → since ≤ now
    → after_ticks t (now + 1 - since)
    ≡ record (after_ticks t (now - since)) { current = next_current (after_ticks t (now - since)) }
after_tick_since t since now h =
    let e : now + 1 - since ≡ now - since + 1 = omega arith in
    rw e (after_next_tick t (now - since))

-- none has passed at the tick itself
pub after_ticks_now : (t : SysTick) (now : ℕ) → after_ticks t (now - now) ≡ t
after_ticks_now t now = let e : now - now ≡ 0 = omega arith in rw e (after_no_ticks t)
