-- The summary of the levels: which priority bytes have a level with an exception.
use Rattle.std.proofs.Common.{◌≡◌, ℕ, ◌<◌, Bool, true, false, ◌==◌, if◌then◌else◌, List, [], length, slice_set}
use Rattle.std.proofs.Common.{Option, Some, None, is_some, replicate, refl, sym, ◌∙◌, ap, arith}
use Rattle.std.proofs.lemmas.Bool.{eqb-true, eqb-false, false_from_ne_true}
use Rattle.std.proofs.lemmas.List.{get_or-set_same, get_or-set_other}
use Rattle.nvic_levels.proofs.Bits.{all_empty, no_level}
use Rattle.nvic_levels.proofs.Others.{none_some, one_some}
use Rattle.nvic_levels.specs.Sets.{level, IsFirstLevelled, IsFirstOf, IsSummaryOf}
use Rattle.platform.specs.declared.exception.TheConstants.{EXCEPTIONS}
use Rattle.platform.specs.Priorities.{is_in_words, some_below}

-- a set has an exception where it has a first one
pub found_some : (set : List ℕ) (found : Option ℕ) → IsFirstOf set found
    → is_some found ≡ some_below (is_in_words set) EXCEPTIONS
found_some set (Some x) f = sym (one_some _ EXCEPTIONS x f.0 f.1)
found_some set None f = sym (none_some _ EXCEPTIONS f)

none_below : (test : ℕ → Bool) (k y : ℕ) → some_below test k ≡ false → y < k → test y ≡ false
none_below test k y e h = false_from_ne_true (test y) (λ t. let some = one_some test k y h t in cc)

-- levels of which none has an exception
pub summary_none : (n : ℕ) (set filled : List ℕ) → ((x : ℕ) → is_in_words set x ≡ false)
    → ((p : ℕ) → is_in_words filled p ≡ false) → IsSummaryOf (replicate n set) filled
summary_none n set filled none out p h = out p ∙ sym (none_some _ EXCEPTIONS (λ y k. no_level n set none p y))

-- a level has changed, and its bit with it
pub summary_put : (levels : List (List ℕ)) (old new set : List ℕ) (q : ℕ) (on : Bool) → q < length levels
    → IsSummaryOf levels old → on ≡ some_below (is_in_words set) EXCEPTIONS
    → ((p : ℕ) → p < 256 → is_in_words new p ≡ (if p == q then on else is_in_words old p))
    → IsSummaryOf (slice_set levels q set) new
summary_put levels old new set q on room before some puts p h = lead (p == q) refl (puts p h)
  where
    lead : (b : Bool) → (p == q) ≡ b → is_in_words new p ≡ (if b then on else is_in_words old p)
        → is_in_words new p ≡ some_below (is_in_words (level (slice_set levels q set) p)) EXCEPTIONS
    lead true e put =
        let same : p ≡ q = eqb-true p q e in
        let here : level (slice_set levels q set) p ≡ set = rw same (get_or-set_same levels q set [] room) in
        put ∙ some ∙ ap (λ s. some_below (is_in_words s) EXCEPTIONS) (sym here)
    lead false e put =
        let there : level (slice_set levels q set) p ≡ level levels p =
        get_or-set_other levels q p set [] (eqb-false p q e) in
        put ∙ before p h ∙ ap (λ s. some_below (is_in_words s) EXCEPTIONS) (sym there)

-- the first filled level has the first exception
pub first_levelled : (levels : List (List ℕ)) (filled : List ℕ) (p : ℕ) (found : Option ℕ)
    → IsSummaryOf levels filled → IsFirstOf filled (Some p) → IsFirstOf (level levels p) found
    → IsFirstLevelled levels found
first_levelled levels filled p (Some x) sums at f =
    (p, λ q below y h. none_below _ EXCEPTIONS y (sym (sums q (omega (arith, below, at.0))) ∙ at.2 q below) h, f)
first_levelled levels filled p None sums at f =
    let none = none_some (is_in_words (level levels p)) EXCEPTIONS f in
    let some = sums p at.0 in
    let there = at.1 in
    absurd (let w : ⊥ = cc in w)

pub none_levelled : (levels : List (List ℕ)) (filled : List ℕ) → length levels ≡ 256
    → IsSummaryOf levels filled → IsFirstOf filled None → IsFirstLevelled levels None
none_levelled levels filled e sums none =
    all_empty levels e (λ q below y h. none_below _ EXCEPTIONS y (sym (sums q below) ∙ none q below) h)
