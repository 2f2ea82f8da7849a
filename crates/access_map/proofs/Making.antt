-- The intervals of a place, made in one pass: those that are complete, and the current one, which grows until its
-- neighbour differs.
use Rattle.std.proofs.Common.{◌≡◌, ℕ, ◌+◌, ◌<◌, ◌≤◌, ◌⊎◌, List, [], ◌∷◌, ◌++◌, arith, refl, sym, ◌∙◌, inl, inr}
use Rattle.std.specs.List.{All}
use Rattle.std.proofs.lemmas.Bool.{cases_lt}
use Rattle.std.proofs.lemmas.List.Elements.{All-nil, All-push}
use Rattle.access_map.specs.declared.interval.Interval.{Interval}
use Rattle.access_map.specs.declared.world.Place.{Place}
use Rattle.access_map.specs.declared.world.World.{World}
use Rattle.access_map.specs.Maps.{AreLongest, Describes, IsAlike, Tiles}
use Rattle.access_map.specs.Worlds.{rights_at, rule_at}

-- one more interval after the others
tiles_push : (xs : List Interval) (x : Interval) (a b : ℕ) → Tiles xs a b → x.first ≡ b → x.first ≤ x.last
    → Tiles (xs ++ x ∷ []) a (x.last + 1)
tiles_push [] x a b tiles begins order = (begins ∙ sym tiles, order, refl)
tiles_push (y ∷ xs) x a b tiles begins order =
    (tiles.0, tiles.1, tiles_push xs x (y.last + 1) b tiles.2 begins order)

-- the last interval grows
longest_grown : (xs : List Interval) (x y : Interval) → IsAlike x y → AreLongest (xs ++ x ∷ [])
    → AreLongest (xs ++ y ∷ [])
longest_grown [] x y alike longest = (tt, tt)
longest_grown (z ∷ []) x y alike longest =
    (λ e. longest.0 (e.0 ∙ sym alike.0, e.1 ∙ sym alike.1), longest_grown [] x y alike longest.1)
longest_grown (z ∷ (u ∷ xs)) x y alike longest = (longest.0, longest_grown (u ∷ xs) x y alike longest.1)

-- one that differs follows the last interval
longest_push : (xs : List Interval) (x y : Interval) → ¬ IsAlike x y → AreLongest (xs ++ x ∷ [])
    → AreLongest ((xs ++ x ∷ []) ++ y ∷ [])
longest_push [] x y unlike longest = (unlike, (tt, tt))
longest_push (z ∷ []) x y unlike longest = (longest.0, longest_push [] x y unlike longest.1)
longest_push (z ∷ (u ∷ xs)) x y unlike longest = (longest.0, longest_push (u ∷ xs) x y unlike longest.1)

-- the intervals are complete up to the current one
pub record IsMade (w : World) (place : Place) (first : ℕ) (xs : List Interval) (current : Interval) : Type 0 where
  pub tiles : Tiles xs first current.first
  pub order : current.first ≤ current.last
  pub from : first ≤ current.first
  pub right : All (Describes w place) xs
  pub holds : Describes w place current
  pub longest : AreLongest (xs ++ current ∷ [])

pub made_first : (w : World) (place : Place) (first : ℕ) (x : Interval) → x.first ≡ first → x.first ≤ x.last
    → Describes w place x → IsMade w place first [] x
made_first w place first x begins order holds = record {
  tiles = sym begins;
  order = order;
  from = omega arith;
  right = All-nil (Describes w place);
  holds = holds;
  longest = (tt, tt);
}

-- the current interval, and the addresses of the next one
abbrev pub grown : Interval → Interval → Interval
grown x y = record x { last = y.last }

pub made_same : (w : World) (place : Place) (first : ℕ) (xs : List Interval) (x y : Interval)
    → IsMade w place first xs x → y.first ≡ x.last + 1 → y.first ≤ y.last → Describes w place y → IsAlike x y
    → IsMade w place first xs (grown x y)
made_same w place first xs x y made begins order holds alike = record {
  tiles = made.tiles;
  order = let h = made.order in omega (arith, h);
  from = made.from;
  right = made.right;
  holds = λ a above below. lead a above below (cases_lt x.last a);
  longest = longest_grown xs x (grown x y) (refl, refl) made.longest;
}
  where
    lead : (a : ℕ) → x.first ≤ a → a ≤ y.last → ((x.last < a) ⊎ (a ≤ x.last))
        → (rights_at w place a ≡ x.rights) × (rule_at w a ≡ x.rule)
    lead a above below (inl after) =
        let h = holds a (omega arith) below in (h.0 ∙ sym alike.0, h.1 ∙ sym alike.1)
    lead a above below (inr upto) = made.holds a above upto

pub made_next : (w : World) (place : Place) (first : ℕ) (xs : List Interval) (x y : Interval)
    → IsMade w place first xs x → y.first ≡ x.last + 1 → y.first ≤ y.last → Describes w place y → ¬ IsAlike x y
    → IsMade w place first (xs ++ x ∷ []) y
made_next w place first xs x y made begins order holds unlike = record {
  tiles = rw begins (tiles_push xs x first x.first made.tiles refl made.order);
  order = order;
  from = let f = made.from in let o = made.order in omega (arith, f, o);
  right = All-push (Describes w place) xs x made.right made.holds;
  holds = holds;
  longest = longest_push xs x y unlike made.longest;
}

-- the current interval was the last one
pub made_last : (w : World) (place : Place) (first : ℕ) (xs : List Interval) (x : Interval)
    → IsMade w place first xs x
    → Tiles (xs ++ x ∷ []) first (x.last + 1) × All (Describes w place) (xs ++ x ∷ [])
    × AreLongest (xs ++ x ∷ [])
made_last w place first xs x made = (
  tiles_push xs x first x.first made.tiles refl made.order,
  All-push (Describes w place) xs x made.right made.holds,
  made.longest,
)
