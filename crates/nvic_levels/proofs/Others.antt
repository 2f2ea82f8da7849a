-- Whether a set has another exception than a given one.
use Rattle.std.proofs.Common.{◌≡◌, ℕ, zero, suc, ◌<◌, ◌≤◌, Bool, true, false, not, ◌&&◌, ◌||◌, ◌==◌, if◌then◌else◌}
use Rattle.std.proofs.Common.{List}
use Rattle.std.proofs.Common.{Option, Some, None, is_some, refl, sym, ◌∙◌, ap, arith, ◌⊎◌, inl, inr}
use Rattle.std.proofs.Math.Bool.{or-true}
use Rattle.std.proofs.lemmas.Bool.{cases_lt, eqb-true}
use Rattle.nvic_levels.proofs.Lists.{flag}
use Rattle.nvic_levels.specs.Sets.{flags, IsFirstOf}
use Rattle.platform.specs.declared.exception.TheConstants.{EXCEPTIONS}
use Rattle.platform.specs.Priorities.{Nvic, is_in, is_in_words, is_other_active, some_below}

some_same : (f g : ℕ → Bool) (k : ℕ) → ((y : ℕ) → y < k → f y ≡ g y) → some_below f k ≡ some_below g k
unfolding some_below
some_same f g zero h = refl
some_same f g (suc k) h = rw (some_same f g k (λ y b. h y (omega (arith, b))), h k (omega arith)) refl

pub none_some : (f : ℕ → Bool) (k : ℕ) → ((y : ℕ) → y < k → f y ≡ false) → some_below f k ≡ false
unfolding some_below
none_some f zero h = refl
none_some f (suc k) h = rw (none_some f k (λ y b. h y (omega (arith, b))), h k (omega arith)) refl

pub one_some : (f : ℕ → Bool) (k x : ℕ) → x < k → f x ≡ true → some_below f k ≡ true
unfolding some_below
one_some f zero x h e = absurd (omega (arith, h))
one_some f (suc k) x h e = lead (λ below. one_some f k x below e) (cases_lt x k)
  where
    lead : (x < k → some_below f k ≡ true) → ((x < k) ⊎ (k ≤ x)) → (some_below f k || f k) ≡ true
    lead before (inl below) = rw (before below) refl
    lead before (inr above) =
        let here : f k ≡ true = ap f (omega (arith, h, above)) ∙ e in
        rw here (or-true (some_below f k))

-- a set without the given exception has one where another one is in the set
pub first_other : (set others : List ℕ) (number : ℕ) (found : Option ℕ)
    → ((y : ℕ) → y < 256 → is_in_words others y ≡ (not (y == number) && is_in_words set y)) → IsFirstOf others found
    → is_some found ≡ some_below (λ y. not (y == number) && is_in_words set y) EXCEPTIONS
first_other set others number (Some x) same f = sym (one_some _ EXCEPTIONS x f.0 (sym (same x f.0) ∙ f.1))
first_other set others number None same f = sym (none_some _ EXCEPTIONS (λ y h. sym (same y h) ∙ f y h))

pub taken_out : (there : Bool) (at : Bool) → (if at then false else there) ≡ (not at && there)
taken_out there true = refl
taken_out there false = refl

-- a number that no exception has isn't in the set
pub not_there : (there : Bool) (y number : ℕ) → y < 256 → 256 ≤ number → there ≡ (not (y == number) && there)
not_there there y number small large = lead (y == number) refl
  where
    lead : (at : Bool) → (y == number) ≡ at → there ≡ (not at && there)
    lead true e = let same = eqb-true y number e in absurd (omega (arith, same, small, large))
    lead false e = refl

-- the same, over the list of the active exceptions
pub other_active : (n : Nvic) (active : ℕ → Bool) (number : ℕ) → flags active ≡ n.active
    → some_below (λ y. not (y == number) && active y) EXCEPTIONS ≡ is_other_active n number
unfolding is_other_active
other_active n active number e =
    some_same _ _ EXCEPTIONS
    (λ y h. ap (λ b. not (y == number) && b) (sym (flag active y h) ∙ ap (λ s. is_in s y) e))
