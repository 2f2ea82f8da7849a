-- The text about the worlds of a run: their steps, their access maps, and what they share (profile).
use Rattle.std.specs.Prelude.{◌≡◌, ℕ, ◌+◌, ◌==◌, if◌then◌else◌, List, [], ◌∷◌, ◌++◌, take}
use Rattle.std.specs.List.{AllPairs}
use Rattle.access_map.specs.declared.counting.WorldSteps.{WorldSteps}
use Rattle.access_map.specs.declared.map.AccessMap.{AccessMap}
use Rattle.access_map.specs.declared.world.World.{World}
use Rattle.access_map.specs.Counting.{Worlds}
use Rattle.access_map.specs.Lines.{map_text, others_text, pair_text, world_line}
use Rattle.access_map.specs.Maps.{IsMapOf}
use Rattle.access_map.specs.Sharing.{AreWorldsApart, AreShared}
use Rattle.mpu.specs.declared.spans.Span.{Span}
use Rattle.platform.specs.declared.stop.Stop.{Stop}
use Rattle.platform.specs.Boards.{Numbers}
use Rattle.platform.specs.Text.{stop_line}

-- a text is a part of one kind, followed by one of another
pub record IsFollowed (First Rest : List ℕ → Type 0) (text : List ℕ) : Type 0 where
  pub first : List ℕ
  pub rest : List ℕ
  pub is_first : First first
  pub is_rest : Rest rest
  pub is : text ≡ first ++ rest

-- ---- the worlds; `name` is the name of the symbol that has an address

-- the line of world k, followed by the lines of its access map
pub record IsWorldText (board : Numbers) (name : ℕ → List ℕ) (k : ℕ) (row : WorldSteps) (text : List ℕ) : Type 0 where
  pub map : AccessMap
  pub is_map : IsMapOf row.world board map
  pub is : text ≡ world_line k row (name row.pc) ++ map_text k map

-- the texts of worlds, one after another, of which the first has the number k
abbrev pub AreWorldTexts : Numbers → (ℕ → List ℕ) → ℕ → List WorldSteps → List ℕ → Type 0
AreWorldTexts board name k [] text = text ≡ []
AreWorldTexts board name k (row ∷ rows) text =
    IsFollowed (IsWorldText board name k row) (AreWorldTexts board name (k + 1) rows) text

-- the line of steps in further worlds, where there are any
abbrev pub others_shown : ℕ → List ℕ
others_shown n = if n == 0 then [] else others_text n

-- ---- the pairs

-- what worlds j and k share with one another, but for bytes that are allowed
pub record IsPairText (board : Numbers) (allowed : List Span) (j : ℕ) (v : World) (k : ℕ) (w : World)
    (text : List ℕ) : Type 0 where
  pub there : List Span
  pub back : List Span
  pub are_there : AreShared board v w allowed there
  pub are_back : AreShared board w v allowed back
  pub is : text ≡ pair_text j k there back

-- the texts of the pairs of world j with worlds of which the first has the number k
abbrev pub ArePairTexts : Numbers → List Span → ℕ → World → ℕ → List WorldSteps → List ℕ → Type 0
ArePairTexts board allowed j v k [] text = text ≡ []
ArePairTexts board allowed j v k (row ∷ rows) text =
    IsFollowed (IsPairText board allowed j v k row.world) (ArePairTexts board allowed j v (k + 1) rows) text

-- the texts of all pairs of worlds of which the first has the number j
abbrev pub AreAllPairTexts : Numbers → List Span → ℕ → List WorldSteps → List ℕ → Type 0
AreAllPairTexts board allowed j [] text = text ≡ []
AreAllPairTexts board allowed j (row ∷ rows) text =
    IsFollowed (ArePairTexts board allowed j row.world (j + 1) rows) (AreAllPairTexts board allowed (j + 1) rows) text

-- ---- the whole

-- the text about the worlds of a run: each with its map, the further steps, each pair, and the line of the stop
pub record IsWorldsText (board : Numbers) (name : ℕ → List ℕ) (allowed : List Span) (v : Worlds) (why : Stop)
    (text : List ℕ) : Type 0 where
  pub worlds : List ℕ
  pub pairs : List ℕ
  pub are_worlds : AreWorldTexts board name 1 (take v.used v.rows) worlds
  pub are_pairs : AreAllPairTexts board allowed 1 (take v.used v.rows) pairs
  pub is : text ≡ ((worlds ++ others_shown v.others) ++ pairs) ++ stop_line why

-- every two worlds are apart, and there are no steps in further ones
pub record AreAllApart (board : Numbers) (allowed : List Span) (v : Worlds) : Type 0 where
  pub pairs : AllPairs (λ row other. AreWorldsApart board row.world other.world allowed) (take v.used v.rows)
  pub no_others : v.others ≡ 0
