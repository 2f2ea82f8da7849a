-- A row and those after it.
use Rattle.std.proofs.Common.{◌≡◌, ◌∙◌, ℕ, ◌+◌, ◌-◌, ◌<◌, ◌≤◌, ◌⊎◌, inl, inr, List, drop, length, get_or, arith}
use Rattle.std.proofs.lemmas.List.{get_or-drop, get_or_default, length-drop}
use Rattle.std.proofs.lemmas.Bool.{cases_lt}
use Rattle.std.specs.List.{All, AllPairs}

-- where each row fits each later one, a row fits all after it
pub fits_later : {X : Type 0} (R : X → X → Type 0) (xs : List X) (i : ℕ) (x e : X) → i < length xs → x ≡ get_or xs i e
    → AllPairs R xs → All (R x) (drop (i + 1) xs)
fits_later {X} R xs i x e below is all k d within =
    let few : i + 1 + k < length xs = omega (arith, rw length-drop at within) in
    let first : x ≡ get_or xs i d = is ∙ get_or_default xs i e d below in
    let later = get_or-drop (i + 1) xs k d in
    rw (first, later) (all i (i + 1 + k) d (omega arith) few)

-- one row more fits all after it
pub fit_up_to : {X : Type 0} (R : X → X → Type 0) (xs : List X) (i : ℕ) (x e : X) → i < length xs → x ≡ get_or xs i e
    → All (R x) (drop (i + 1) xs)
    → ((j k : ℕ) (d : X) → j < i → j < k → k < length xs → R (get_or xs j d) (get_or xs k d))
    → (j k : ℕ) (d : X) → j < i + 1 → j < k → k < length xs → R (get_or xs j d) (get_or xs k d)
fit_up_to {X} R xs i x e below is all so_far j k d upto later within = lead (cases_lt j i)
  where
    lead : ((j < i) ⊎ (i ≤ j)) → R (get_or xs j d) (get_or xs k d)
    lead (inl less) = so_far j k d less later within
    lead (inr more) =
        let same : j ≡ i = omega (arith, more, upto) in
        let place : i + 1 + (k - (i + 1)) ≡ k = omega (arith, same, later) in
        let few : k - (i + 1) < length (drop (i + 1) xs) = rw length-drop (omega (arith, same, later, within)) in
        let first : x ≡ get_or xs i d = is ∙ get_or_default xs i e d below in
        let fits = all (k - (i + 1)) d few in
        let fits' = rw (get_or-drop (i + 1) xs (k - (i + 1)) d, place) at fits in
        rw (same, ← first) fits'
