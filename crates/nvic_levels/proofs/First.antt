-- The first exception of the first level that isn't empty is the best one.
--
-- - `IsOf` joins the fields and the exceptions that a contract sees.
-- - What is ready and not fixed is in the level of its priority byte (`in_its_level`), and what is in a level is
--   ready and not fixed (`level_ready`). So the order by level and then by number is that of `ComesFirst`
--   (`best_found`), and where all levels are empty nothing but a fixed exception can be ready (`best_absent`).
-- - NMI and HardFault are in no level: `best_nmi` and `best_hard_fault`.
use Rattle.std.proofs.Common.{◌≡◌, ℕ, ◌+◌, ◌<◌, ◌≤◌, ◌⊎◌, inl, inr, Bool, true, false, not, ◌&&◌, ◌||◌, ◌==◌, List}
use Rattle.std.proofs.Common.{slice_index, Some, None, refl, sym, ◌∙◌, ap, subst, arith}
use Rattle.std.proofs.Math.Bool.{or-true}
use Rattle.std.proofs.lemmas.Bool.{cases_lt, eqb-true, eq-eqb, and_parts, false_from_ne_true, not-true}
use Rattle.std.proofs.lemmas.Bool.Decides.{nat_tests}
use Rattle.nvic_levels.proofs.KeptLevels.{view_of}
use Rattle.nvic_levels.proofs.Lists.{flag}
use Rattle.nvic_levels.specs.Sets.{flags, level, is_waiting, is_levelled, AreEmpty, IsKept, IsFirstOf}
use Rattle.nvic.proofs.Best.{best_exactly}
use Rattle.nvic.specs.Laws.{IsPendingAndEnabled, ComesFirst}
use Rattle.platform.specs.declared.exception.TheConstants.{NMI, HARD_FAULT, EXCEPTIONS}
use Rattle.platform.specs.declared.exception.Masks.{Masks}
use Rattle.platform.specs.Priorities.{Nvic, best, is_always_enabled, is_in_words, is_enabled, is_fixed, is_in}
use Rattle.platform.specs.Priorities.{is_ready}
use Rattle.platform.specs.Priorities.{priority_of}

-- the levels are those of the exceptions
pub record IsOf (n : Nvic) (levels : List (List ℕ)) (held enabled : List ℕ) : Type 0 where
  pub kept : IsKept levels held enabled n.priorities
  pub pending : n.pending ≡ flags (is_waiting levels held n.priorities)
  pub enabled_is : n.enabled ≡ flags (is_in_words enabled)

-- the levels that are seen as exceptions are theirs
pub of_view : (levels : List (List ℕ)) (held enabled active priorities : List ℕ) (group : ℕ) (masks : Masks)
    (interrupts bits : ℕ)
    → IsKept levels held enabled priorities
    → IsOf (view_of levels held enabled active priorities group masks interrupts bits) levels held enabled
of_view levels held enabled active priorities group masks interrupts bits kept =
    record { kept = kept; pending = refl; enabled_is = refl }

-- a ready exception that isn't fixed is in its level
in_its_level : (n : Nvic) (levels : List (List ℕ)) (held enabled : List ℕ) (y : ℕ) → IsOf n levels held enabled
    → IsPendingAndEnabled n y → is_fixed y ≡ false → is_in_words (level levels (slice_index n.priorities y)) y ≡ true
in_its_level n levels held enabled y of ready free = lead (is_in_words held y) refl waiting
  where
    waiting : is_waiting levels held n.priorities y ≡ true
    waiting =
        let e : is_in n.pending y ≡ is_waiting levels held n.priorities y =
        ap (λ s. is_in s y) of.pending ∙ flag (is_waiting levels held n.priorities) y ready.in_range in
        sym e ∙ (and_parts _ _ ready.ready).0

    on : is_enabled n y ≡ true
    on = (and_parts (is_in n.pending y) _ ready.ready).1

    levelled : is_levelled enabled y ≡ true
    levelled =
        let e : is_in n.enabled y ≡ is_in_words enabled y =
        ap (λ s. is_in s y) of.enabled_is ∙ flag (is_in_words enabled) y ready.in_range in
        let f : (is_always_enabled y || is_in_words enabled y) ≡ true =
        ap (λ b. is_always_enabled y || b) (sym e) ∙ on in
        rw (f, free) refl

    lead : (b : Bool) → is_in_words held y ≡ b
        → (is_in_words held y || is_in_words (level levels (slice_index n.priorities y)) y) ≡ true
        → is_in_words (level levels (slice_index n.priorities y)) y ≡ true
    lead true e w = let f = of.kept.in_held y ready.in_range e in let g = levelled in absurd (let w : ⊥ = cc in w)
    lead false e w = rw e at w

-- one that is fixed is ready only where it's pending
unfixed : (n : Nvic) (y : ℕ) → is_in n.pending NMI ≡ false → is_in n.pending HARD_FAULT ≡ false
    → IsPendingAndEnabled n y
    → is_fixed y ≡ false
unfixed n y nmi fault ready = first (y == NMI) refl
  where
    pending : is_in n.pending y ≡ true
    pending = (and_parts _ _ ready.ready).0

    second : (y == NMI) ≡ false → (b : Bool) → (y == HARD_FAULT) ≡ b → is_fixed y ≡ false
    second e true f =
        let t = pending in
        let same : is_in n.pending y ≡ is_in n.pending HARD_FAULT = ap (is_in n.pending) (eqb-true y HARD_FAULT f) in
        absurd (let w : ⊥ = cc in w)
    second e false f = rw (e, f) refl

    first : (a : Bool) → (y == NMI) ≡ a → is_fixed y ≡ false
    first true e =
        let t = pending in
        let same : is_in n.pending y ≡ is_in n.pending NMI = ap (is_in n.pending) (eqb-true y NMI e) in
        absurd (let w : ⊥ = cc in w)
    first false e = second e (y == HARD_FAULT) refl

-- an exception in a level is ready, isn't fixed and has that priority byte
level_ready : (n : Nvic) (levels : List (List ℕ)) (held enabled : List ℕ) (p x : ℕ) → IsOf n levels held enabled
    → x < EXCEPTIONS
    → is_in_words (level levels p) x ≡ true → IsPendingAndEnabled n x × (is_fixed x ≡ false)
    × (slice_index n.priorities x ≡ p)
level_ready n levels held enabled p x of small there = (record { in_range = small; ready = ready }, free, byte)
  where
    byte : slice_index n.priorities x ≡ p
    byte = (of.kept.in_level p x small there).0

    levelled : ((is_always_enabled x || is_in_words enabled x) && not (is_fixed x)) ≡ true
    levelled = (of.kept.in_level p x small there).1

    free : is_fixed x ≡ false
    free = not-true (is_fixed x) (and_parts (is_always_enabled x || is_in_words enabled x) _ levelled).1

    pending : is_in n.pending x ≡ true
    pending =
        ap (λ s. is_in s x) of.pending ∙ flag (is_waiting levels held n.priorities) x small
        ∙ (let e : is_in_words (level levels (slice_index n.priorities x)) x ≡ true = rw byte there in
        rw e (or-true (is_in_words held x)))

    on : is_enabled n x ≡ true
    on =
        let e : is_in n.enabled x ≡ is_in_words enabled x =
        ap (λ s. is_in s x) of.enabled_is ∙ flag (is_in_words enabled) x small in
        ap (λ b. is_always_enabled x || b) e ∙ (and_parts _ _ levelled).0

    ready : is_ready n x ≡ true
    ready = let p = pending in let o = on in rw (p, o) refl

-- the priority of an exception that isn't fixed
by_byte : (n : Nvic) (x : ℕ) → is_fixed x ≡ false → priority_of n x ≡ slice_index n.priorities x + 2
by_byte n x free = lead (x == NMI) (x == HARD_FAULT) refl refl
  where
    lead : (a b : Bool) → (x == NMI) ≡ a → (x == HARD_FAULT) ≡ b → priority_of n x ≡ slice_index n.priorities x + 2
    lead true b e f = let t : is_fixed x ≡ true = rw e refl in absurd (let w : ⊥ = cc in w)
    lead false true e f = let t : is_fixed x ≡ true = rw (e, f) refl in absurd (let w : ⊥ = cc in w)
    lead false false e f = rw (e, f) refl

pub best_found : (n : Nvic) (levels : List (List ℕ)) (held enabled : List ℕ) (p x : ℕ) → IsOf n levels held enabled
    → is_in n.pending NMI ≡ false → is_in n.pending HARD_FAULT ≡ false
    → AreEmpty levels p → IsFirstOf (level levels p) (Some x) → Some x ≡ best n
best_found n levels held enabled p x of nmi fault before first =
    (best_exactly n (Some x)).0 (here.0, λ y ready. order y ready)
  where
    here : IsPendingAndEnabled n x × (is_fixed x ≡ false) × (slice_index n.priorities x ≡ p)
    here = level_ready n levels held enabled p x of first.0 first.1

    order : (y : ℕ) → IsPendingAndEnabled n y → ComesFirst n x y
    order y ready = split (cases_lt (slice_index n.priorities y) p) (cases_lt p (slice_index n.priorities y))
      where
        free : is_fixed y ≡ false
        free = unfixed n y nmi fault ready

        there : is_in_words (level levels (slice_index n.priorities y)) y ≡ true
        there = in_its_level n levels held enabled y of ready free

        px : priority_of n x ≡ p + 2
        px = by_byte n x here.1 ∙ ap (λ b. b + 2) here.2

        py : priority_of n y ≡ slice_index n.priorities y + 2
        py = by_byte n y free

        split : ((slice_index n.priorities y < p) ⊎ (p ≤ slice_index n.priorities y))
            → ((p < slice_index n.priorities y) ⊎ (slice_index n.priorities y ≤ p)) → ComesFirst n x y
        split (inl below) _ =
            let none = before (slice_index n.priorities y) below y ready.in_range in
            let t = there in
            absurd (let w : ⊥ = cc in w)
        split (inr _) (inl above) = inl (let a = px in let b = py in omega (arith, a, b, above))
        split (inr high) (inr low) = inr
            (let a = px in let b = py in omega (arith, a, b, high, low), not_before (cases_lt y x))
          where
            same : slice_index n.priorities y ≡ p
            same = omega (arith, high, low)

            not_before : ((y < x) ⊎ (x ≤ y)) → x ≤ y
            not_before (inr h) = h
            not_before (inl h) =
                let none = first.2 y h in
                let t : is_in_words (level levels p) y ≡ true = (let s = same in rw s at there) in
                absurd (let w : ⊥ = cc in w)

pub best_absent : (n : Nvic) (levels : List (List ℕ)) (held enabled : List ℕ) → IsOf n levels held enabled
    → is_in n.pending NMI ≡ false → is_in n.pending HARD_FAULT ≡ false
    → ((p : ℕ) (y : ℕ) → y < EXCEPTIONS → is_in_words (level levels p) y ≡ false) → None ≡ best n
best_absent n levels held enabled of nmi fault none = (best_exactly n None).0 (λ y ready.
    let free = unfixed n y nmi fault ready in
    let t = in_its_level n levels held enabled y of ready free in
    let f = none (slice_index n.priorities y) y ready.in_range in
    let w : ⊥ = cc in
    w)

-- a level has the exceptions that are ready, aren't fixed and have its priority byte
pub level_exactly : (n : Nvic) (levels : List (List ℕ)) (held enabled : List ℕ) (p x : ℕ) → IsOf n levels held enabled
    → x < EXCEPTIONS
    → is_in_words (level levels p) x ≡ (is_ready n x && not (is_fixed x) && (slice_index n.priorities x == p))
level_exactly n levels held enabled p x of small = lead (is_in_words (level levels p) x) refl
  where
    all : Bool
    all = is_ready n x && not (is_fixed x) && (slice_index n.priorities x == p)

    lead : (b : Bool) → is_in_words (level levels p) x ≡ b → is_in_words (level levels p) x ≡ all
    lead true e =
        let r = level_ready n levels held enabled p x of small e in
        let i = r.0.ready in
        let f = r.1 in
        let q = eq-eqb (slice_index n.priorities x) p r.2 in
        e ∙ sym (let g : all ≡ true = rw (i, f, q) refl in g)
    lead false e = e ∙ sym (false_from_ne_true all wrong)
      where
        wrong : all ≡ true → ⊥
        wrong t =
            let (both, is) = and_parts (is_ready n x && not (is_fixed x)) (slice_index n.priorities x == p) t in
            let (i, f) = and_parts (is_ready n x) (not (is_fixed x)) both in
            let q = eqb-true (slice_index n.priorities x) p is in
            let free = not-true (is_fixed x) f in
            let there = in_its_level n levels held enabled x of (record { in_range = small; ready = i }) free in
            let t2 : is_in_words (level levels p) x ≡ true = rw q at there in
            cc

-- ---- the fixed ones

pub best_nmi : (n : Nvic) → is_in n.pending NMI ≡ true → Some NMI ≡ best n
best_nmi n e = (best_exactly n (Some NMI)).0 (record { in_range = omega arith; ready = rw e refl }, λ y r. order y)
  where
    order : (y : ℕ) → (0 < priority_of n y) ⊎ ((0 ≡ priority_of n y) × (NMI ≤ y))
    order y = grind (arith, nat_tests)

pub best_hard_fault : (n : Nvic) → is_in n.pending NMI ≡ false → is_in n.pending HARD_FAULT ≡ true
    → Some HARD_FAULT ≡ best n
best_hard_fault n f e = (best_exactly n (Some HARD_FAULT)).0
    (record { in_range = omega arith; ready = rw e refl }, λ y r. order y (missing y r))
  where
    missing : (y : ℕ) → IsPendingAndEnabled n y → y ≡ NMI → ⊥
    missing y r i = let t : is_in n.pending NMI ≡ true =
        subst (λ z. is_in n.pending z ≡ true) i (and_parts _ _ r.ready).0 in cc

    order : (y : ℕ) → (y ≡ NMI → ⊥) → (1 < priority_of n y) ⊎ ((1 ≡ priority_of n y) × (HARD_FAULT ≤ y))
    order y h = grind (arith, nat_tests)
