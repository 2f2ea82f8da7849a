-- The values that texts ask for, text by text.
use Rattle.std.proofs.Common.{◌≡◌, ◌∙◌, ◌<◌, ◌≤◌, ◌+◌, ℕ, List, [], ◌∷◌, ◌++◌, Option, Some, None, Bor}
use Rattle.std.proofs.Common.{ap, append-nil, arith, drop, drop_of_length-le, length, map, slice_index_or, subst}
use Rattle.std.proofs.Common.{suc, sym}
use Rattle.std.proofs.Math.Seq.{drop-cons}
use Rattle.std.proofs.lemmas.List.{append_assoc, map-append}

-- the texts ask for the values of these items, and then for what those from a place on ask for
abbrev pub ListedSoFar
    : {X V : Type 0} → (List ℕ → Option V) → (X → V) → List (Bor (List ℕ)) → List X → ℕ → Type 0
ListedSoFar named value texts xs place =
    map named (map (λ t. t.now) texts)
    ≡ map (λ x. Some (value x)) xs ++ map named (map (λ t. t.now) (drop place texts))

here : (texts : List (Bor (List ℕ))) (place : ℕ) (blank : Bor (List ℕ)) → place < length texts
    → drop place texts ≡ slice_index_or texts place blank ∷ drop (place + 1) texts
here texts place blank within =
    let next : suc place ≡ place + 1 = omega arith in
    subst (λ (n : ℕ). drop place texts ≡ slice_index_or texts place blank ∷ drop n texts) next
    (drop-cons texts place blank within)

listed_here : {X V : Type 0} (named : List ℕ → Option V) (value : X → V) (texts : List (Bor (List ℕ))) (xs : List X)
    (place : ℕ) (blank : Bor (List ℕ)) (found : Option V)
    → place < length texts → found ≡ named (slice_index_or texts place blank).now
    → ListedSoFar named value texts xs place
    → map named (map (λ t. t.now) texts)
    ≡ map (λ x. Some (value x)) xs ++ found ∷ map named (map (λ t. t.now) (drop (place + 1) texts))
listed_here {V = V} named value texts xs place blank found within is so_far =
    so_far ∙ ap (λ (left : List (Bor (List ℕ))). map (λ x. Some (value x)) xs
    ++ map named (map (λ t. t.now) left)) (here texts place blank within)
    ∙ ap (λ (it : Option V). map (λ x. Some (value x)) xs
    ++ it ∷ map named (map (λ t. t.now) (drop (place + 1) texts))) (sym is)

-- the next text asks for one item more
pub listed_more : {X V : Type 0} (named : List ℕ → Option V) (value : X → V) (texts : List (Bor (List ℕ)))
    (xs more : List X) (place : ℕ) (blank : Bor (List ℕ)) (x : X)
    → place < length texts → Some (value x) ≡ named (slice_index_or texts place blank).now → more ≡ xs ++ x ∷ []
    → ListedSoFar named value texts xs place → ListedSoFar named value texts more (place + 1)
listed_more {X = X} {V = V} named value texts xs more place blank x within is longer so_far =
    rw longer
    (listed_here named value texts xs place blank (Some (value x)) within is so_far
    ∙ sym (ap (λ (front : List (Option V)). front ++ map named (map (λ t. t.now) (drop (place + 1) texts)))
    (map-append (λ (y : X). Some (value y)) xs (x ∷ []))
    ∙ append_assoc (map (λ (y : X). Some (value y)) xs) (Some (value x) ∷ [])
    (map named (map (λ t. t.now) (drop (place + 1) texts)))))

not_all : {X V : Type 0} (value : X → V) (xs all : List X) (rest : List (Option V))
    → ¬ (map (λ x. Some (value x)) xs ++ None ∷ rest ≡ map (λ x. Some (value x)) all)
not_all value [] [] rest same = absurd cc
not_all value [] (y ∷ all) rest same = absurd cc
not_all value (x ∷ xs) [] rest same = absurd cc
not_all value (x ∷ xs) (y ∷ all) rest same = not_all value xs all rest cc

-- the next text asks for none, so the texts ask for no items
pub listed_none : {X V : Type 0} (named : List ℕ → Option V) (value : X → V) (texts : List (Bor (List ℕ)))
    (xs : List X) (place : ℕ) (blank : Bor (List ℕ))
    → place < length texts → None ≡ named (slice_index_or texts place blank).now
    → ListedSoFar named value texts xs place
    → (all : List X) → ¬ (map named (map (λ t. t.now) texts) ≡ map (λ x. Some (value x)) all)
listed_none named value texts xs place blank within is so_far all same =
    not_all value xs all (map named (map (λ t. t.now) (drop (place + 1) texts)))
    (sym (listed_here named value texts xs place blank None within is so_far) ∙ same)

-- no text is left
pub listed_all : {X V : Type 0} (named : List ℕ → Option V) (value : X → V) (texts : List (Bor (List ℕ)))
    (xs : List X) (place : ℕ) → length texts ≤ place → ListedSoFar named value texts xs place
    → map named (map (λ t. t.now) texts) ≡ map (λ x. Some (value x)) xs
listed_all named value texts xs place all so_far =
    so_far ∙ ap (λ (left : List (Bor (List ℕ))). map (λ x. Some (value x)) xs
    ++ map named (map (λ t. t.now) left)) (drop_of_length-le texts all)
    ∙ append-nil (map (λ x. Some (value x)) xs)
