-- The field of a letter as the runs of its places.
use Rattle.std.specs.Prelude.{ℕ, ◌+◌, ◌*◌, ◌^◌, Bool, true, false, ◌&&◌, ◌==◌, nat_le, if◌then◌else◌, List, [], ◌∷◌}
use Rattle.std.specs.Prelude.{length}
use Rattle.instruction_set.specs.Words.{bits}

-- places of one letter, side by side: how many places are below them, and how many they are
pub record Run : Type 0 where
  pub low : ℕ
  pub width : ℕ

-- the runs with one more place above them, if it is one of the letter's
abbrev pub with_place : Bool → ℕ → List Run → List Run
with_place false at runs = runs
with_place true at [] = record { low = at; width = 1 } ∷ []
with_place true at (run ∷ runs) =
    if at == run.low + run.width
    then record run { width = 1 + run.width } ∷ runs
    else record { low = at; width = 1 } ∷ (run ∷ runs)

-- the runs of a letter in a text, from the highest
abbrev pub runs_of : ℕ → List ℕ → List Run
runs_of letter [] = []
runs_of letter (place ∷ places) = with_place (place == letter) (length places) (runs_of letter places)

-- how many places the runs have
abbrev pub width_of : List Run → ℕ
width_of [] = 0
width_of (run ∷ runs) = run.width + width_of runs

-- the bits of the runs, joined
abbrev pub joined_runs : List Run → ℕ → ℕ
joined_runs [] x = 0
joined_runs (run ∷ []) x = bits x run.low run.width
joined_runs (run ∷ (next ∷ runs)) x =
    bits x run.low run.width * 2 ^ width_of (next ∷ runs) + joined_runs (next ∷ runs) x

-- the field of a letter
abbrev pub value_at : List ℕ → ℕ → ℕ → ℕ
value_at places x letter = joined_runs (runs_of letter places) x

-- how many places a letter has
abbrev pub width : List ℕ → ℕ → ℕ
width places letter = width_of (runs_of letter places)

-- whether a text has at most 32 places, and at most `most` of that letter
abbrev pub has_field : ℕ → List ℕ → ℕ → Bool
has_field most places letter = nat_le (length places) 32 && nat_le (width places letter) most
