-- The state that a run goes back to where a step hits a watchpoint.
use Rattle.std.specs.Prelude.{◌≡◌, false, ◌==◌, List, length, Option, Some, None}
use Rattle.gdb_texts.specs.declared.stops.StopReason.{StopReason}
use Rattle.gdb_texts.specs.declared.watchpoints.Watchpoint.{Watchpoint}
use Rattle.reference.specs.State.{State}
use Rattle.reference.specs.Step.{step}

-- where there are watchpoints, it is the state of the machine
abbrev pub IsReady : List Watchpoint → State → State → Type 0
IsReady watchpoints position s = (length watchpoints == 0) ≡ false → position ≡ s

-- the state after a step, which isn't made where it hits a watchpoint
abbrev pub state_unless : Option StopReason → State → State
state_unless None s = (step s).state
state_unless (Some hit) s = s
