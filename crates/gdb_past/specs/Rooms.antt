-- Room for marks.
use Rattle.std.specs.Prelude.{ℕ, ◌<◌, ◌≤◌, List, All, length}
use Rattle.gdb_past.specs.Copies.{max_marks}
use Rattle.gdb_past.specs.Places.{AreOfOneMachine}
use Rattle.reference.specs.State.{State}

-- there is room for at most eight marks of the machine that has this state, and so many are set, at least one
pub record HasRoom (start : State) (marks : List State) (count : ℕ) : Type 0 where
  pub rooms : length marks ≤ max_marks
  pub some : 0 < count
  pub few : count ≤ length marks
  pub fits : All (λ m. AreOfOneMachine start m) marks
