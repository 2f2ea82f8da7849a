-- The rows of a place, made in one pass: those that are complete, and the current one, which grows until its neighbour
-- differs; and one column of a row after another.
use Rattle.std.proofs.Common.{◌≡◌, ℕ, zero, suc, ◌+◌, ◌<◌, ◌≤◌, ◌⊎◌, List, [], ◌∷◌, ◌++◌, arith, refl, sym, ◌∙◌}
use Rattle.std.proofs.Common.{add-one, ap, get_or, inl, inr, length, set, take}
use Rattle.std.specs.List.{All}
use Rattle.std.proofs.lemmas.Bool.{cases_lt}
use Rattle.std.proofs.lemmas.List.{take_all}
use Rattle.std.proofs.lemmas.List.Elements.{All-nil, All-push}
use Rattle.access_map.specs.declared.counting.WorldSteps.{WorldSteps}
use Rattle.access_map.specs.declared.interval.Interval.{Interval}
use Rattle.access_map.specs.declared.world.Place.{Place}
use Rattle.access_map.specs.declared.world.Rights.{Rights}
use Rattle.access_map.specs.Maps.{Describes as IntervalDescribes}
use Rattle.access_map.specs.Worlds.{rights_at}
use Rattle.page_text.proofs.Shown.{no_more, then_more}
use Rattle.page_text.specs.declared.access_rows.AccessRow.{AccessRow}
use Rattle.page_text.specs.declared.access_rows.ShownRows.{ShownRows}
use Rattle.page_text.specs.AccessTables.{AreLongest, Describes, Shows, Tiles, max_columns, max_rows}
use Rattle.page_text.specs.AccessTables.{rights_in}
use Rattle.page_text.specs.Growing.{AddsRows, AddsRowsOf}

-- ---- the columns of a row

-- the rights of one world more
pub next_column : (n i : ℕ) (worlds : List WorldSteps) (w e : WorldSteps) (place : Place) (a : ℕ) → i < n
    → i < length worlds → w ≡ get_or worlds i e
    → set (rights_in n (take i worlds) place a) i (rights_at w.world place a)
    ≡ rights_in n (take (suc i) worlds) place a
next_column zero i worlds w e place a below within is = absurd (omega (arith, below))
next_column (suc n) i [] w e place a below within is = absurd (omega (arith, within))
next_column (suc n) zero (v ∷ worlds) w e place a below within is =
    ap (λ (x : WorldSteps). rights_at x.world place a ∷ rights_in n [] place a) is
next_column (suc n) (suc i) (v ∷ worlds) w e place a below within is =
    ap (λ (rs : List Rights). rights_at v.world place a ∷ rs)
    (next_column n i worlds w e place a (omega (arith, below)) (omega (arith, within)) is)

-- a row of which the rights of the first columns are known, at each of its addresses
pub record HasColumns (worlds : List WorldSteps) (place : Place) (i : ℕ) (row : AccessRow) : Type 0 where
  pub here : row.place ≡ place
  pub rights : (a : ℕ) → row.first ≤ a → a ≤ row.last → row.rights ≡ rights_in max_columns (take i worlds) place a

-- the row with the rights of one world more, as far as these don't change
abbrev pub with_column : AccessRow → ℕ → Interval → AccessRow
with_column row i x = record row { last = x.last; rights = set row.rights i x.rights }

pub column_on : (worlds : List WorldSteps) (place : Place) (i : ℕ) (row : AccessRow) (w e : WorldSteps) (x : Interval)
    → HasColumns worlds place i row → i < length worlds → length worlds ≤ max_columns → w ≡ get_or worlds i e
    → IntervalDescribes w.world place x → x.first ≡ row.first → x.last ≤ row.last
    → HasColumns worlds place (i + 1) (with_column row i x)
column_on worlds place i row w e x has within few is describes begins ends = record {
  here = has.here;
  rights = λ a above below.
      ap (λ (rs : List Rights). set rs i x.rights) (has.rights a above (omega (arith, below, ends)))
      ∙ ap (λ (r : Rights). set (rights_in max_columns (take i worlds) place a) i r)
      (sym (describes a (omega (arith, above, begins)) below).0)
      ∙ rw add-one (next_column max_columns i worlds w e place a (omega (arith, within, few)) within is);
}

pub no_column : (worlds : List WorldSteps) (place : Place) (row : AccessRow) → row.place ≡ place
    → row.rights ≡ rights_in max_columns [] place 0 → HasColumns worlds place 0 row
no_column worlds place row here none = record { here = here; rights = λ a above below. none }

pub all_columns : (worlds : List WorldSteps) (place : Place) (i : ℕ) (row : AccessRow) → HasColumns worlds place i row
    → length worlds ≤ i → Describes worlds place row
all_columns worlds place i row has whole = record {
  here = has.here;
  rights = λ a above below.
      has.rights a above below
      ∙ ap (λ (ws : List WorldSteps). rights_in max_columns ws place a) (take_all i worlds whole);
}

-- ---- the rows of a place

-- one more row after the others
tiles_push : (xs : List AccessRow) (x : AccessRow) (a b : ℕ) → Tiles xs a b → x.first ≡ b → x.first ≤ x.last
    → Tiles (xs ++ x ∷ []) a (x.last + 1)
tiles_push [] x a b tiles begins order = (begins ∙ sym tiles, order, refl)
tiles_push (y ∷ xs) x a b tiles begins order =
    (tiles.0, tiles.1, tiles_push xs x (y.last + 1) b tiles.2 begins order)

-- the last row grows
longest_grown : (xs : List AccessRow) (x y : AccessRow) → x.rights ≡ y.rights → AreLongest (xs ++ x ∷ [])
    → AreLongest (xs ++ y ∷ [])
longest_grown [] x y alike longest = (tt, tt)
longest_grown (z ∷ []) x y alike longest =
    (λ e. longest.0 (e ∙ sym alike), longest_grown [] x y alike longest.1)
longest_grown (z ∷ (u ∷ xs)) x y alike longest = (longest.0, longest_grown (u ∷ xs) x y alike longest.1)

-- one that differs follows the last row
longest_push : (xs : List AccessRow) (x y : AccessRow) → ¬ (x.rights ≡ y.rights) → AreLongest (xs ++ x ∷ [])
    → AreLongest ((xs ++ x ∷ []) ++ y ∷ [])
longest_push [] x y unlike longest = (unlike, (tt, tt))
longest_push (z ∷ []) x y unlike longest = (longest.0, longest_push [] x y unlike longest.1)
longest_push (z ∷ (u ∷ xs)) x y unlike longest = (longest.0, longest_push (u ∷ xs) x y unlike longest.1)

-- the rows that follow those of the old list are complete up to the current one
pub record AreMade (worlds : List WorldSteps) (place : Place) (first : ℕ) (old new : ShownRows)
    (current : AccessRow) : Type 0 where
  pub done : List AccessRow
  pub adds : AddsRows done old new
  pub tiles : Tiles done first current.first
  pub order : current.first ≤ current.last
  pub right : All (Describes worlds place) done
  pub holds : Describes worlds place current
  pub longest : AreLongest (done ++ current ∷ [])

pub made_first : (worlds : List WorldSteps) (place : Place) (first : ℕ) (old : ShownRows) (x : AccessRow)
    → x.first ≡ first → x.first ≤ x.last → Describes worlds place x → AreMade worlds place first old old x
made_first worlds place first old x begins order holds = record {
  done = [];
  adds = no_more (λ (all : List AccessRow). Shows max_rows all old.items.items old.others);
  tiles = sym begins;
  order = order;
  right = All-nil (Describes worlds place);
  holds = holds;
  longest = (tt, tt);
}

-- the current row, and the addresses of the next one
abbrev pub grown : AccessRow → AccessRow → AccessRow
grown x y = record x { last = y.last }

pub made_same : (worlds : List WorldSteps) (place : Place) (first : ℕ) (old new : ShownRows) (x y : AccessRow)
    → AreMade worlds place first old new x → y.first ≡ x.last + 1 → y.first ≤ y.last → Describes worlds place y
    → x.rights ≡ y.rights → AreMade worlds place first old new (grown x y)
made_same worlds place first old new x y made begins order holds alike = record {
  done = made.done;
  adds = made.adds;
  tiles = made.tiles;
  order = let h = made.order in omega (arith, h);
  right = made.right;
  holds = record { here = made.holds.here; rights = λ a above below. lead a above below (cases_lt x.last a) };
  longest = longest_grown made.done x (grown x y) refl made.longest;
}
  where
    lead : (a : ℕ) → x.first ≤ a → a ≤ y.last → ((x.last < a) ⊎ (a ≤ x.last))
        → x.rights ≡ rights_in max_columns worlds place a
    lead a above below (inl after) = alike ∙ holds.rights a (omega arith) below
    lead a above below (inr upto) = made.holds.rights a above upto

-- the current row is added, and the next one differs from it
pub made_next : (worlds : List WorldSteps) (place : Place) (first : ℕ) (old mid new : ShownRows) (x y : AccessRow)
    → AreMade worlds place first old mid x → AddsRows (x ∷ []) mid new → y.first ≡ x.last + 1 → y.first ≤ y.last
    → Describes worlds place y → ¬ (x.rights ≡ y.rights) → AreMade worlds place first old new y
made_next worlds place first old mid new x y made one begins order holds unlike = record {
  done = made.done ++ x ∷ [];
  adds = then_more (λ (all : List AccessRow). Shows max_rows all old.items.items old.others)
      (λ (all : List AccessRow). Shows max_rows all mid.items.items mid.others)
      (λ (all : List AccessRow). Shows max_rows all new.items.items new.others) made.done (x ∷ []) made.adds one;
  tiles = rw begins (tiles_push made.done x first x.first made.tiles refl made.order);
  order = order;
  right = All-push (Describes worlds place) made.done x made.right made.holds;
  holds = holds;
  longest = longest_push made.done x y unlike made.longest;
}

-- the current row is added as the last one
pub made_last : (worlds : List WorldSteps) (place : Place) (first end : ℕ) (old mid new : ShownRows) (x : AccessRow)
    → AreMade worlds place first old mid x → AddsRows (x ∷ []) mid new → x.last ≡ end
    → AddsRowsOf worlds place first (end + 1) old new
made_last worlds place first end old mid new x made one ends = record {
  rows = made.done ++ x ∷ [];
  are = record {
    tiles = rw (← ends) (tiles_push made.done x first x.first made.tiles refl made.order);
    right = All-push (Describes worlds place) made.done x made.right made.holds;
    longest = made.longest;
  };
  adds = then_more (λ (all : List AccessRow). Shows max_rows all old.items.items old.others)
      (λ (all : List AccessRow). Shows max_rows all mid.items.items mid.others)
      (λ (all : List AccessRow). Shows max_rows all new.items.items new.others) made.done (x ∷ []) made.adds one;
}
