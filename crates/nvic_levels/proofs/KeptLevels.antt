-- Each change keeps every pending exception in the set where it belongs.
--
-- - `IsKept` says where a pending exception is: in the level of its priority byte if it is enabled and not fixed, and
--   otherwise in `held`.
-- - Each kind of change has two lemmas. `kept_..` says that `IsKept` holds after it, `seen_..` that the pending
--   exceptions, as a contract sees them, change by that one.
-- - In each, an exception is the one that changes or another one: `lead` splits on `y == x`. What isn't waiting is in
--   no set (`absent`, `free`), so moving its priority byte or its enabled bit moves nothing.
use Rattle.std.proofs.Common.{◌≡◌, ℕ, ◌<◌, Bool, true, false, not, ◌&&◌, ◌||◌, ◌==◌, if◌then◌else◌, List}
use Rattle.std.proofs.Common.{slice_index, slice_set, refl, sym, ◌∙◌, ap, arith}
use Rattle.std.proofs.Math.Bool.{or-true, or-false}
use Rattle.std.proofs.lemmas.Bool.{eqb-true, eqb-false, false_from_ne_true}
use Rattle.std.proofs.lemmas.Bool.Decides.{nat_tests}
use Rattle.std.proofs.lemmas.List.{get_or-set_other}
use Rattle.nvic_levels.proofs.Lists.{flags_set, flags_same}
use Rattle.nvic_levels.specs.Sets.{flags, level, is_waiting, is_levelled, IsKept}
use Rattle.platform.specs.declared.exception.Masks.{Masks}
use Rattle.platform.specs.declared.exception.TheConstants.{EXCEPTIONS}
use Rattle.platform.specs.Priorities.{Nvic, is_always_enabled, is_in_words, is_fixed}

-- one exception of a set, and one of the set of a priority byte
abbrev Puts : List ℕ → List ℕ → ℕ → Bool → Type 0
Puts old new x on = (y : ℕ) → y < 256 → is_in_words new y ≡ (if y == x then on else is_in_words old y)

abbrev PutsAt : List (List ℕ) → List (List ℕ) → ℕ → ℕ → Bool → Type 0
PutsAt old new p x on =
    (q : ℕ) (y : ℕ) → y < 256 → is_in_words (level new q) y
    ≡ (if (q == p) && (y == x) then on else is_in_words (level old q) y)

both_equal : (q p y x : ℕ) → ((q == p) && (y == x)) ≡ true → (q ≡ p) × (y ≡ x)
both_equal q p y x e = (grind (arith, nat_tests), grind (arith, nat_tests))

-- what is levelled isn't held
pub unheld : {levels : List (List ℕ)} {held enabled priorities : List ℕ} (x : ℕ) → x < EXCEPTIONS
    → IsKept levels held enabled priorities → is_levelled enabled x ≡ true → is_in_words held x ≡ false
unheld {held = held} x small kept levelled =
    false_from_ne_true (is_in_words held x) (λ t. let f = kept.in_held x small t in cc)

-- what isn't levelled is in no level
pub unlevelled : {levels : List (List ℕ)} {held enabled priorities : List ℕ} (p x : ℕ) → x < EXCEPTIONS
    → IsKept levels held enabled priorities → is_levelled enabled x ≡ false → is_in_words (level levels p) x ≡ false
unlevelled {levels = levels} p x small kept off =
    false_from_ne_true (is_in_words (level levels p) x) (λ t. let f = (kept.in_level p x small t).1 in cc)

-- what isn't waiting is in no level and not held
absent : {levels : List (List ℕ)} {held enabled priorities : List ℕ} (p x : ℕ) → x < EXCEPTIONS
    → IsKept levels held enabled priorities → is_waiting levels held priorities x ≡ false
    → is_in_words (level levels p) x ≡ false
absent {levels = levels} {held = held} {priorities = priorities} p x small kept out =
    false_from_ne_true (is_in_words (level levels p) x) (λ t. wrong (rw (kept.in_level p x small t).0 at out) t)
  where
    wrong : (is_in_words held x || is_in_words (level levels p) x) ≡ false → is_in_words (level levels p) x ≡ true → ⊥
    wrong f t = let e : (is_in_words held x || true) ≡ false = rw t at f in let g = or-true (is_in_words held x) in cc

free : (levels : List (List ℕ)) (held priorities : List ℕ) (x : ℕ) → is_waiting levels held priorities x ≡ false
    → is_in_words held x ≡ false
free levels held priorities x out = false_from_ne_true (is_in_words held x) (λ t. wrong t out)
  where
    wrong : is_in_words held x ≡ true
        → (is_in_words held x || is_in_words (level levels (slice_index priorities x)) x) ≡ false → ⊥
    wrong t f = let e : true ≡ false = rw t at f in (cc)

-- ---- a change of one that is levelled

pub kept_levelled : (old new : List (List ℕ)) (held enabled priorities : List ℕ) (x : ℕ) (on : Bool)
    → IsKept old held enabled priorities → is_levelled enabled x ≡ true → PutsAt old new (slice_index priorities x) x on
    → IsKept new held enabled priorities
kept_levelled old new held enabled priorities x on kept levelled puts = record {
  in_level = λ q y h t. lead q y h ((q == slice_index priorities x) && (y == x)) refl (sym (puts q y h) ∙ t);
  in_held = kept.in_held;
}
  where
    lead : (q y : ℕ) → y < EXCEPTIONS → (b : Bool) → ((q == slice_index priorities x) && (y == x)) ≡ b
        → (if b then on else is_in_words (level old q) y) ≡ true
        → (slice_index priorities y ≡ q) × (is_levelled enabled y ≡ true)
    lead q y h true e t =
        let s = both_equal q (slice_index priorities x) y x e in
        (ap (slice_index priorities) s.1 ∙ sym s.0, ap (is_levelled enabled) s.1 ∙ levelled)
    lead q y h false e t = kept.in_level q y h t

pub seen_levelled : (old new : List (List ℕ)) (held enabled priorities : List ℕ) (x : ℕ) (on : Bool) → x < 256
    → IsKept old held enabled priorities → is_levelled enabled x ≡ true → PutsAt old new (slice_index priorities x) x on
    → flags (is_waiting new held priorities) ≡ slice_set (flags (is_waiting old held priorities)) x on
seen_levelled old new held enabled priorities x on small kept levelled puts =
    flags_set (is_waiting old held priorities) (is_waiting new held priorities) x on small
    (λ y h. lead y h (y == x) refl)
  where
    here : (y : ℕ) → y ≡ x → y < 256 → is_in_words (level new (slice_index priorities y)) y ≡ on
    here y e h = puts (slice_index priorities y) y h ∙ chosen
      where
        chosen : (if (slice_index priorities y == slice_index priorities x) && (y == x) then on
            else is_in_words (level old (slice_index priorities y)) y) ≡ on
        chosen = let p : slice_index priorities y ≡ slice_index priorities x = ap (slice_index priorities) e in
            grind (arith, nat_tests)

    there : (y : ℕ) → (y == x) ≡ false → y < 256
        → is_in_words (level new (slice_index priorities y)) y ≡ is_in_words (level old (slice_index priorities y)) y
    there y e h = puts (slice_index priorities y) y h ∙ skipped (slice_index priorities y == slice_index priorities x)
      where
        skipped : (b : Bool) → (if b && (y == x) then on else is_in_words (level old (slice_index priorities y)) y)
            ≡ is_in_words (level old (slice_index priorities y)) y
        skipped true = rw e refl
        skipped false = refl

    lead : (y : ℕ) → y < 256 → (b : Bool) → (y == x) ≡ b
        → is_waiting new held priorities y ≡ (if b then on else is_waiting old held priorities y)
    lead y h true e =
        let same : y ≡ x = eqb-true y x e in
        let out : is_in_words held y ≡ false = unheld y h kept (ap (is_levelled enabled) same ∙ levelled) in
        let level_is = here y same h in
        rw (out, level_is) refl
    lead y h false e = ap (λ b. is_in_words held y || b) (there y e h)

-- ---- a change of one that isn't

pub kept_held : (levels : List (List ℕ)) (old new enabled priorities : List ℕ) (x : ℕ) (on : Bool)
    → IsKept levels old enabled priorities → is_levelled enabled x ≡ false → Puts old new x on
    → IsKept levels new enabled priorities
kept_held levels old new enabled priorities x on kept off puts = record {
  in_level = kept.in_level;
  in_held = λ y h t. lead y h (y == x) refl (sym (puts y h) ∙ t);
}
  where
    lead : (y : ℕ) → y < EXCEPTIONS → (b : Bool) → (y == x) ≡ b → (if b then on else is_in_words old y) ≡ true
        → is_levelled enabled y ≡ false
    lead y h true e t = ap (is_levelled enabled) (eqb-true y x e) ∙ off
    lead y h false e t = kept.in_held y h t

pub seen_held : (levels : List (List ℕ)) (old new enabled priorities : List ℕ) (x : ℕ) (on : Bool) → x < 256
    → IsKept levels old enabled priorities → is_levelled enabled x ≡ false → Puts old new x on
    → flags (is_waiting levels new priorities) ≡ slice_set (flags (is_waiting levels old priorities)) x on
seen_held levels old new enabled priorities x on small kept off puts =
    flags_set (is_waiting levels old priorities) (is_waiting levels new priorities) x on small
    (λ y h. lead y h (y == x) refl (puts y h))
  where
    lead : (y : ℕ) → y < 256 → (b : Bool) → (y == x) ≡ b → is_in_words new y ≡ (if b then on else is_in_words old y)
        → is_waiting levels new priorities y ≡ (if b then on else is_waiting levels old priorities y)
    lead y h true e put =
        let same : y ≡ x = eqb-true y x e in
        let none = unlevelled (slice_index priorities y) y h kept (ap (is_levelled enabled) same ∙ off) in
        rw (put, none) (or-false on)
    lead y h false e put = ap (λ b. b || is_in_words (level levels (slice_index priorities y)) y) put

-- the lemmas of a change of one exception that is or isn't levelled
pub ruleset put_lemmas = (kept_levelled, kept_held, seen_levelled, seen_held)

-- ---- a change of the enabled exceptions, and of a priority byte

pub flags_put : (old new : List ℕ) (x : ℕ) (on : Bool) → x < 256 → Puts old new x on
    → flags (is_in_words new) ≡ slice_set (flags (is_in_words old)) x on
flags_put old new x on small puts = flags_set (is_in_words old) (is_in_words new) x on small puts

-- what is in a level is another exception than one that isn't waiting
another : (levels : List (List ℕ)) (held enabled priorities : List ℕ) (q x y : ℕ) → x < 256
    → IsKept levels held enabled priorities → is_waiting levels held priorities x ≡ false
    → is_in_words (level levels q) y ≡ true → (y == x) ≡ false
another levels held enabled priorities q x y small kept out t =
    false_from_ne_true (y == x) (λ e. wrong (eqb-true y x e))
  where
    wrong : y ≡ x → ⊥
    wrong e = let f = absent q x small kept out in let g = ap (is_in_words (level levels q)) e in cc

pub kept_switched : (levels : List (List ℕ)) (held old new priorities : List ℕ) (x : ℕ) (on : Bool) → x < 256
    → IsKept levels held old priorities → is_waiting levels held priorities x ≡ false → Puts old new x on
    → IsKept levels held new priorities
kept_switched levels held old new priorities x on small kept out puts = record {
  in_level = λ q y h t. (
    (kept.in_level q y h t).0,
    same y h (another levels held old priorities q x y small kept out t) ∙ (kept.in_level q y h t).1,
  );
  in_held = λ y h t. same y h (at_held y h t) ∙ kept.in_held y h t;
}
  where
    same : (y : ℕ) → y < 256 → (y == x) ≡ false → is_levelled new y ≡ is_levelled old y
    same y h e = ap (λ b. (is_always_enabled y || b) && not (is_fixed y))
        (puts y h ∙ ap (λ b. if b then on else is_in_words old y) e)

    at_held : (y : ℕ) → y < 256 → is_in_words held y ≡ true → (y == x) ≡ false
    at_held y h t = false_from_ne_true (y == x) (λ e. wrong (eqb-true y x e))
      where
        wrong : y ≡ x → ⊥
        wrong e = let f = free levels held priorities x out in let g = ap (is_in_words held) e in cc

moved : (priorities : List ℕ) (x y b : ℕ) → (y == x) ≡ false
    → slice_index (slice_set priorities x b) y ≡ slice_index priorities y
moved priorities x y b e = get_or-set_other priorities x y b 0 (eqb-false y x e)

pub kept_moved : (levels : List (List ℕ)) (held enabled priorities : List ℕ) (x b : ℕ) → x < 256
    → IsKept levels held enabled priorities → is_waiting levels held priorities x ≡ false
    → IsKept levels held enabled (slice_set priorities x b)
kept_moved levels held enabled priorities x b small kept out = record {
  in_level = λ q y h t. (
    moved priorities x y b (another levels held enabled priorities q x y small kept out t)
        ∙ (kept.in_level q y h t).0,
    (kept.in_level q y h t).1,
  );
  in_held = kept.in_held;
}

pub seen_moved : (levels : List (List ℕ)) (held enabled priorities : List ℕ) (x b : ℕ) → x < 256
    → IsKept levels held enabled priorities → is_waiting levels held priorities x ≡ false
    → flags (is_waiting levels held (slice_set priorities x b)) ≡ flags (is_waiting levels held priorities)
seen_moved levels held enabled priorities x b small kept out =
    flags_same (is_waiting levels held (slice_set priorities x b)) (is_waiting levels held priorities)
    (λ y h. lead y h (y == x) refl)
  where
    lead : (y : ℕ) → y < 256 → (c : Bool) → (y == x) ≡ c
        → is_waiting levels held (slice_set priorities x b) y ≡ is_waiting levels held priorities y
    lead y h true e =
        let same : y ≡ x = eqb-true y x e in
        let before = ap (is_waiting levels held priorities) same ∙ out in
        let one = free levels held priorities y before in
        let new = absent (slice_index (slice_set priorities x b) y) y h kept before in
        let now : is_waiting levels held (slice_set priorities x b) y ≡ false = rw (one, new) refl in
        now ∙ sym before
    lead y h false e = ap (λ p. is_in_words held y || is_in_words (level levels p) y) (moved priorities x y b e)

-- what a contract sees of these fields
abbrev pub view_of : List (List ℕ) → List ℕ → List ℕ → List ℕ → List ℕ → ℕ → Masks → ℕ → ℕ → Nvic
view_of levels held enabled active priorities group masks interrupts bits = record {
  pending = flags (is_waiting levels held priorities);
  enabled = flags (is_in_words enabled);
  active = flags (is_in_words active);
  priorities = priorities;
  group = group;
  masks = masks;
  interrupts = interrupts;
  priority_bits = bits;
}
