-- The part "Who may touch what" of a page: rows of addresses with what each world may do there, and the bytes of RAM
-- that one world shares with another (profile).
use Rattle.std.specs.Prelude.{◌≡◌, ℕ, zero, suc, ◌+◌, ◌-◌, ◌^◌, ◌≤◌, ◌==◌, Bool, true, false, not, ◌&&◌, min, List, []}
use Rattle.std.specs.Prelude.{◌∷◌, ◌++◌, length, take, slice_index_or}
use Rattle.std.specs.List.{All}
use Rattle.access_map.specs.declared.counting.WorldSteps.{WorldSteps}
use Rattle.access_map.specs.declared.world.Place.{Place}
use Rattle.access_map.specs.declared.world.Place.TheVariants.{Flash, Ram, SecondRam, Window}
use Rattle.access_map.specs.declared.world.Rights.{Rights}
use Rattle.access_map.specs.declared.world.World.{World}
use Rattle.access_map.specs.Counting.{Worlds}
use Rattle.access_map.specs.Sharing.{AreShared, carries}
use Rattle.access_map.specs.Worlds.{end_of, first_of, places, rights_at}
use Rattle.mpu.specs.declared.spans.Span.{Span}
use Rattle.page_text.specs.declared.access_rows.AccessRow.{AccessRow}
use Rattle.page_text.specs.declared.access_rows.ShownRows.{ShownRows}
use Rattle.page_text.specs.declared.access_table.AccessTable.{AccessTable}
use Rattle.page_text.specs.declared.shares.Share.{Share}
use Rattle.page_text.specs.declared.shares.ShownShares.{ShownShares}
use Rattle.platform.specs.Boards.{Numbers}

-- how many worlds have a column at most, and how many rows and how many spans of shared bytes are shown at most
abbrev pub max_columns : ℕ
max_columns = 8

abbrev pub max_rows : ℕ
max_rows = 32

abbrev pub max_shares : ℕ
max_shares = 64

-- of a list the first n are shown, and the others are counted; their number stays at its highest value, 2^64 - 1
pub record Shows {X : Type 0} (n : ℕ) (all shown : List X) (others : ℕ) : Type 0 where
  pub first : shown ≡ take n all
  pub counted : others ≡ min (length all - n) (2 ^ 64 - 1)

-- a list is a part of one kind, followed by one of another
pub record IsFollowed {X : Type 0} (First Rest : List X → Type 0) (xs : List X) : Type 0 where
  pub first : List X
  pub rest : List X
  pub is_first : First first
  pub is_rest : Rest rest
  pub is : xs ≡ first ++ rest

-- ---- the rows

-- the worlds that have a column: the first ones
abbrev pub columns_of : List WorldSteps → List WorldSteps
columns_of worlds = take max_columns worlds

-- the rights of a column that no world has
abbrev pub no_rights : Rights
no_rights = record { read = false; write = false; execute = false }

-- what the worlds of n columns may do with the byte at an address of a place, in the order of the columns
abbrev pub rights_in : ℕ → List WorldSteps → Place → ℕ → List Rights
rights_in zero worlds place a = []
rights_in (suc n) [] place a = no_rights ∷ rights_in n [] place a
rights_in (suc n) (w ∷ worlds) place a = rights_at w.world place a ∷ rights_in n worlds place a

-- a row is of a place, and has in each column what the world of the column may do with each byte of the row
pub record Describes (columns : List WorldSteps) (place : Place) (row : AccessRow) : Type 0 where
  pub here : row.place ≡ place
  pub rights : (a : ℕ) → row.first ≤ a → a ≤ row.last → row.rights ≡ rights_in max_columns columns place a

-- the rows cover the addresses from a up to b in order, without gap or overlap; none is empty
abbrev pub Tiles : List AccessRow → ℕ → ℕ → Type 0
Tiles [] a b = a ≡ b
Tiles (x ∷ xs) a b = (x.first ≡ a) × (x.first ≤ x.last) × Tiles xs (x.last + 1) b

-- the first row of a list, if there is one, differs in some column from the row before the list
abbrev pub BeginsUnlike : AccessRow → List AccessRow → Type 0
BeginsUnlike x [] = Unit {0}
BeginsUnlike x (y ∷ ys) = ¬ (x.rights ≡ y.rights)

-- neighbours differ, so none can be longer
abbrev pub AreLongest : List AccessRow → Type 0
AreLongest [] = Unit {0}
AreLongest (x ∷ xs) = BeginsUnlike x xs × AreLongest xs

-- the rows of the addresses of a place from a up to b: together exactly these, each right for all of its addresses, and
-- as long as possible
pub record AreRows (columns : List WorldSteps) (place : Place) (a b : ℕ) (rows : List AccessRow) : Type 0 where
  pub tiles : Tiles rows a b
  pub right : All (Describes columns place) rows
  pub longest : AreLongest rows

-- the rows of places, one place after another
abbrev pub AreRowsOf : List WorldSteps → Numbers → List Place → List AccessRow → Type 0
AreRowsOf columns board [] rows = rows ≡ []
AreRowsOf columns board (place ∷ others) rows =
    IsFollowed (AreRows columns place (first_of board place) (end_of board place)) (AreRowsOf columns board others) rows

-- the rows of a board, of which the first are shown
pub record ShowsRows (columns : List WorldSteps) (board : Numbers) (shown : ShownRows) : Type 0 where
  pub all : List AccessRow
  pub right : AreRowsOf columns board (places board) all
  pub shows : Shows max_rows all shown.items.items shown.others

-- ---- the bytes that worlds share

-- spans of bytes that one world shares with another, with the places of both among the rows of `Worlds`
abbrev pub shares_of : ℕ → ℕ → List Span → List Share
shares_of writer reader [] = []
shares_of writer reader (x ∷ xs) =
    record { writer = writer; reader = reader; span = x } ∷ shares_of writer reader xs

-- what world v at place j shares with world w at place k, with no address allowed
pub record AreSharesTo (board : Numbers) (j : ℕ) (v : World) (k : ℕ) (w : World) (shares : List Share) : Type 0 where
  pub spans : List Span
  pub are : AreShared board v w [] spans
  pub is : shares ≡ shares_of j k spans

-- what they share with one another: first the bytes that v may write
abbrev pub ArePairShares : Numbers → ℕ → World → ℕ → World → List Share → Type 0
ArePairShares board j v k w shares =
    IsFollowed (AreSharesTo board j v k w) (AreSharesTo board k w j v) shares

-- what world v at place j and each world of a list share with one another, of which the first is at place k
abbrev pub AreSharesWith : Numbers → ℕ → World → ℕ → List WorldSteps → List Share → Type 0
AreSharesWith board j v k [] shares = shares ≡ []
AreSharesWith board j v k (w ∷ worlds) shares =
    IsFollowed (ArePairShares board j v k w.world) (AreSharesWith board j v (k + 1) worlds) shares

-- what every two worlds of a list share with one another, of which the first is at place j
abbrev pub AreSharesAmong : Numbers → ℕ → List WorldSteps → List Share → Type 0
AreSharesAmong board j [] shares = shares ≡ []
AreSharesAmong board j (w ∷ worlds) shares =
    IsFollowed (AreSharesWith board j w.world (j + 1) worlds) (AreSharesAmong board (j + 1) worlds) shares

-- what every two worlds share with one another, of which the first is shown
pub record ShowsShares (worlds : List WorldSteps) (board : Numbers) (shown : ShownShares) : Type 0 where
  pub all : List Share
  pub right : AreSharesAmong board 0 worlds all
  pub shows : Shows max_shares all shown.items.items shown.others

-- ---- the whole

-- who may touch what, of the worlds of a run on a board
pub record IsTableOf (board : Numbers) (v : Worlds) (table : AccessTable) : Type 0 where
  pub rows : ShowsRows (columns_of (take v.used v.rows)) board table.rows
  pub shares : ShowsShares (take v.used v.rows) board table.shares

-- ---- the marks of a cell

abbrev pub is_ram : Place → Bool
is_ram Flash = false
is_ram Ram = true
is_ram SecondRam = true
is_ram Window = false

-- the world of one column may write bytes of a row, all of RAM, that the world of another may read or execute
abbrev pub is_shared_in : AccessRow → ℕ → ℕ → Bool
is_shared_in row writer reader =
    (not (writer == reader) && is_ram row.place)
    && carries (slice_index_or row.rights writer no_rights) (slice_index_or row.rights reader no_rights)
