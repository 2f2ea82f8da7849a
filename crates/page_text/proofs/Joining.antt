-- A list made of parts, one after another, while its items are added to those that are shown.
use Rattle.std.proofs.Common.{◌≡◌, ◌∙◌, ℕ, ◌+◌, ◌<◌, List, [], ◌∷◌, ◌++◌, Result, Ok, Err, OnOk, add-one, drop}
use Rattle.std.proofs.Common.{get_or, length, arith, refl, subst, sym}
use Rattle.std.proofs.Math.Seq.{drop-cons}
use Rattle.std.proofs.lemmas.List.{append-nil, append_assoc, take_all}
use Rattle.page_text.specs.AccessTables.{IsFollowed, Shows}

-- the items from a place on
pub items_from : {X : Type 0} (xs : List X) (i : ℕ) (x d : X) → i < length xs → x ≡ get_or xs i d
    → drop i xs ≡ x ∷ drop (i + 1) xs
items_from xs i x d below is = rw (add-one, is) (drop-cons xs i d below)

-- what follows where a call returned Ok
pub where_ok : {A E P Q : Type 0} (r : Result A E) → (P → Q) → OnOk r P → OnOk r Q
where_ok (Ok a) f p = f p
where_ok (Err e) f p = p

-- nothing is shown of no items
pub shows_none : {X : Type 0} (n : ℕ) (shown : List X) (others : ℕ) → shown ≡ [] → others ≡ 0
    → Shows {X = X} n [] shown others
shows_none {X} n shown others empty none = record {
  first = empty ∙ sym (take_all n [] (omega arith));
  counted = omega (arith, none);
}

-- the items so far, and what they lack
pub record SoFar {X : Type 0} (Are Rest Adds : List X → Type 0) : Type 0 where
  pub all : List X
  pub adds : Adds all
  pub lacks : (more : List X) → Rest more → Are (all ++ more)

-- they lack nothing
pub record Whole {X : Type 0} (Are Adds : List X → Type 0) : Type 0 where
  pub all : List X
  pub adds : Adds all
  pub are : Are all

pub at_first : {X : Type 0} (Are Adds : List X → Type 0) → Adds [] → SoFar Are Are Adds
at_first {X} Are Adds adds = record { all = []; adds = adds; lacks = λ more are. are }

pub part_on : {X : Type 0} (Are Rest First Next Old New : List X → Type 0) (part : List X) → First part
    → ((all : List X) → Old all → New (all ++ part)) → ((t : List X) → IsFollowed First Next t → Rest t)
    → SoFar Are Rest Old → SoFar Are Next New
part_on {X} Are Rest First Next Old New part first adds makes so_far = record {
  all = so_far.all ++ part;
  adds = adds so_far.all so_far.adds;
  lacks = λ more next. subst Are (sym (append_assoc so_far.all part more))
      (so_far.lacks (part ++ more) (makes (part ++ more)
      (record { first = part; rest = more; is_first = first; is_rest = next; is = refl })));
}

pub at_last : {X : Type 0} (Are Rest Adds : List X → Type 0) → Rest [] → SoFar Are Rest Adds → Whole Are Adds
at_last {X} Are Rest Adds none so_far = record {
  all = so_far.all;
  adds = so_far.adds;
  are = subst Are (append-nil so_far.all) (so_far.lacks [] none);
}
