-- Lists of which the first items are shown: one item more, and items after items.
use Rattle.std.proofs.Common.{◌≡◌, ◌∙◌, ℕ, ◌+◌, ◌-◌, ◌^◌, ◌<◌, ◌≤◌, min, List, [], ◌∷◌, ◌++◌, length, ap, arith}
use Rattle.std.proofs.Common.{subst, sym}
use Rattle.std.proofs.lemmas.List.{append-nil, append_assoc, length-take, take-append-le, take_all}
use Rattle.std.proofs.lemmas.List.{length-append}
use Rattle.page_text.specs.AccessTables.{Shows}

-- ---- items after those that a list shows, in two turns or none

pub then_more : {X : Type 0} (Old Mid New : List X → Type 0) (xs ys : List X)
    → ((all : List X) → Old all → Mid (all ++ xs)) → ((all : List X) → Mid all → New (all ++ ys))
    → (all : List X) → Old all → New (all ++ (xs ++ ys))
then_more Old Mid New xs ys first second all shows =
    subst New (append_assoc all xs ys) (second (all ++ xs) (first all shows))

pub no_more : {X : Type 0} (Old : List X → Type 0) (all : List X) → Old all → Old (all ++ [])
no_more Old all shows = subst Old (sym (append-nil all)) shows

-- ---- one item

-- there is room for it
pub shows_one : {X : Type 0} (n : ℕ) (all shown new : List X) (others : ℕ) (x : X) → Shows n all shown others
    → length shown < n → new ≡ shown ++ x ∷ [] → Shows n (all ++ x ∷ []) new others
shows_one {X} n all shown new others x shows room is = record {
  first = is ∙ ap (λ (l : List X). l ++ x ∷ []) (shows.first ∙ take_all n all (omega (arith, few)))
      ∙ sym (take_all n (all ++ x ∷ []) (omega (arith, few, longer)));
  counted = let c = shows.counted in omega (arith, few, longer, c);
}
  where
    taken : length shown ≡ min n (length all)
    taken = ap length shows.first ∙ length-take n all

    few : length all < n
    few = omega (arith, taken, room)

    longer : length (all ++ x ∷ []) ≡ length all + 1
    longer = length-append all (x ∷ [])

-- it is counted
pub counts_one : {X : Type 0} (n : ℕ) (all shown : List X) (others new : ℕ) (x : X) → Shows n all shown others
    → n ≤ length shown → new ≡ min (others + 1) (2 ^ 64 - 1) → Shows n (all ++ x ∷ []) shown new
counts_one {X} n all shown others new x shows full is = record {
  first = shows.first ∙ sym (take-append-le n all (x ∷ []) many);
  counted = let c = shows.counted in omega (arith, many, longer, c, is);
}
  where
    taken : length shown ≡ min n (length all)
    taken = ap length shows.first ∙ length-take n all

    many : n ≤ length all
    many = omega (arith, taken, full)

    longer : length (all ++ x ∷ []) ≡ length all + 1
    longer = length-append all (x ∷ [])
