-- A machine as its contracts see it.
use Rattle.std.specs.Prelude.{Bool}
use Rattle.reference.specs.State.{State}

pub record MachineModel : Type 0 where
  pub state : State
  -- whether a writer failed in an earlier run
  pub broken : Bool
