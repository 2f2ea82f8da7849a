-- A machine that goes on from the last mark (profile).
use Rattle.std.specs.Prelude.{◌≡◌, ℕ}
use Rattle.gdb_past.specs.Places.{AreOfOneMachine, Past, mark_of}
use Rattle.reference.specs.Run.{after}
use Rattle.reference.specs.State.{State}

-- a machine in this state has made steps from the last mark, and nothing else has changed it
pub record IsAfterMark (past : Past) (s : State) : Type 0 where
  pub fits : AreOfOneMachine past.start s
  pub steps : ℕ
  pub there : (m : State) → s ≡ after steps (mark_of past 0 m)

-- a machine that has made steps from the last mark still has when it goes from one state to another
abbrev pub StaysAfterMark : State → State → Type 0
StaysAfterMark s t = (past : Past) → IsAfterMark past s → IsAfterMark past t
