-- The states that `marm tasks` counts for a world, in a run from the start of a board: what the laws of worlds need of a
-- state holds of each of them (profile).
use Rattle.std.specs.Prelude.{◌≡◌, ℕ, true, List, Some, Ok, slice_get, take}
use Rattle.access_map.specs.declared.counting.WorldSteps.{WorldSteps}
use Rattle.access_map.specs.declared.world.World.{World}
use Rattle.access_map.specs.Counting.{Worlds, no_worlds, place_of}
use Rattle.platform.specs.Boards.{Described, Numbers}
use Rattle.platform.specs.Images.{Segment}
use Rattle.platform.specs.SystemInvariant.{IsBoard}
use Rattle.reference.specs.Run.{after}
use Rattle.reference.specs.Start.{start}
use Rattle.reference.specs.State.{State}
use Rattle.reference.specs.Step.{step}
use Rattle.survey_run.specs.WorldRuns.{runs_in_world, world_of, worlds_after}
use Rattle.task_laws.specs.Tasks.{AreInstructions}
use Rattle.world_laws.specs.WorldLaw.{HasRamsOf, RunsIn}

-- a step keeps the RAMs of a board
abbrev pub KeepsRams : Numbers → State → Type 0
KeepsRams board s = HasRamsOf board s.bus.memory → HasRamsOf board (step s).state.bus.memory

-- a run on a board with an image begins in a state
pub record BeginsIn (board : Described) (image : List Segment) (first : State) : Type 0 where
  pub is_board : IsBoard board
  pub starts : start board image ≡ Ok first

-- each state of a run has the RAMs of a board
abbrev pub HaveRamsOf : Numbers → State → Type 0
HaveRamsOf board first = (n : ℕ) → HasRamsOf board (after n first).bus.memory

-- a count of worlds has a row for the next step from a state: the step runs in a world, and w is the world of the row
-- in which it is counted
pub record IsCountedFor (w : World) (v : Worlds) (s : State) : Type 0 where
  pub runs : runs_in_world s ≡ true
  pub row : WorldSteps
  pub there : slice_get (take v.used v.rows) (place_of (world_of s) v) ≡ Some row
  pub is : w ≡ row.world

-- what the laws of worlds need of a state in world w: it has the RAMs of a board, and the next step, and each number of
-- steps of which each is an Instruction step, is a run in w
pub record IsOfWorld (board : Numbers) (w : World) (s : State) : Type 0 where
  pub rams : HasRamsOf board s.bus.memory
  pub next : RunsIn w s 1
  pub runs : (m : ℕ) → AreInstructions m s → RunsIn w s m

-- in a run of which the worlds of so many steps were counted: each state from which a step was counted for a world
abbrev pub CountedLaw : Numbers → State → ℕ → ℕ → World → Type 0
CountedLaw board first steps n w =
    IsCountedFor w (worlds_after steps first no_worlds) (after n first) → IsOfWorld board w (after n first)
