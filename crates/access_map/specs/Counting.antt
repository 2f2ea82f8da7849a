-- The worlds of a run, and how many steps each of them had (profile).
use Rattle.std.specs.Prelude.{ℕ, ◌+◌, ◌-◌, ◌^◌, min, max, nat_lt, if◌then◌else◌, List, [], ◌∷◌, slice_index_or}
use Rattle.std.specs.Prelude.{slice_set, take, replicate, false}
use Rattle.access_map.specs.declared.counting.WorldSteps.{WorldSteps}
use Rattle.access_map.specs.declared.world.World.{World}
use Rattle.access_map.specs.Settings.{is_same_setting}
use Rattle.platform.specs.Regions.{fresh}

-- The worlds so far. Of the 64 places of `rows` the first `used` are rows, in the order of the worlds' first steps.
pub record Worlds : Type 0 where
  pub rows : List WorldSteps
  pub used : ℕ
  -- how many steps there were in worlds that have no row
  pub others : ℕ

-- how many rows there are at most
abbrev pub max_worlds : ℕ
max_worlds = 64

-- a number stays at its highest value, 2^64 - 1
abbrev pub one_more : ℕ → ℕ
one_more n = min (n + 1) (2 ^ 64 - 1)

-- the place of the first row of a world, or the number of rows where it has none
abbrev pub place_in : World → List WorldSteps → ℕ
place_in w [] = 0
place_in w (row ∷ rows) = if is_same_setting w row.world then 0 else place_in w rows + 1

abbrev pub place_of : World → Worlds → ℕ
place_of w s = place_in w (take s.used s.rows)

-- the row of a world after its first step, which began in a tick at a PC
abbrev pub first_row : World → ℕ → ℕ → WorldSteps
first_row w tick pc = record { world = w; steps = 1; tick = tick; pc = pc; lowest = pc; highest = pc }

-- no worlds: each place has the row of a world that is off, which is no row yet
abbrev pub no_worlds : Worlds
no_worlds = record {
  rows = replicate max_worlds (first_row (record { registers = fresh 8; below_zero = false }) 0 0);
  used = 0;
  others = 0;
}

-- a row after one more step, which began at a PC
abbrev pub counted_row : WorldSteps → ℕ → WorldSteps
counted_row row pc = record row {
  steps = one_more row.steps;
  lowest = min row.lowest pc;
  highest = max row.highest pc;
}

-- a new row where there is a place for it; otherwise the step is one of the others
abbrev pub added : Worlds → World → ℕ → ℕ → Worlds
added s w tick pc =
    if nat_lt s.used max_worlds
    then record s { rows = slice_set s.rows s.used (first_row w tick pc); used = s.used + 1 }
    else record s { others = one_more s.others }

-- a step of a world, which began in a tick at a PC, is counted, where the place of the world is known
abbrev pub counted_from : Worlds → World → ℕ → ℕ → ℕ → Worlds
counted_from s w tick pc place =
    if nat_lt place s.used
    then record s { rows = slice_set s.rows place (counted_row (slice_index_or s.rows place (first_row w tick pc)) pc) }
    else added s w tick pc

-- a step of a world is counted
unfoldable pub counted : Worlds → World → ℕ → ℕ → Worlds
counted s w tick pc = counted_from s w tick pc (place_of w s)
