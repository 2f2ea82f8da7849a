-- The state of the machine: registers, memory and System Control Space, which other chapters define, and what is kept
-- between steps. No field repeats what others determine.
use Rattle.std.specs.Prelude.{ℕ, Bool, List, Option, Some}
use Rattle.instruction_set.specs.Registers.{Registers}
use Rattle.platform.specs.declared.event.Event.{Event}
use Rattle.platform.specs.declared.stop.Stop.{Stop}
use Rattle.platform.specs.Memory.{Memory}
use Rattle.platform.specs.Priorities.{Nvic}
use Rattle.platform.specs.System.{System, after_tick}

-- what an access can see and change
pub record Bus : Type 0 where
  pub memory : Memory
  pub system : System

pub record State : Type 0 where
  pub registers : Registers
  pub bus : Bus
  -- whether WFI has put the processor to sleep
  pub asleep : Bool
  -- in the entry phase (from a Stack step, or from a return that tail-chains or faults, until a Vector step enters a
  -- handler): the EXC_RETURN that the handler will get
  pub entry : Option ℕ
  -- why the machine has stopped, if it has
  pub stop : Option Stop

-- what a step returns: the next state, and the lines of the step
pub record Stepped : Type 0 where
  pub state : State
  pub events : List Event

abbrev pub with_bus : State → Bus → State
with_bus s b = record s { bus = b }

abbrev pub with_registers : State → Registers → State
with_registers s r = record s { registers = r }

abbrev pub with_system : State → System → State
with_system s system = with_bus s (record s.bus { system = system })

-- the state with this `Nvic`
abbrev pub with_exceptions : State → Nvic → State
with_exceptions s n = with_system s (record s.bus.system { nvic = n })

-- the state after one tick of the clock
abbrev pub ticked : State → State
ticked s = with_system s (after_tick s.bus.system)

-- the step ends in a stop, which the state records
abbrev pub stopped : State → List Event → Stop → Stepped
stopped s events why = record { state = record s { stop = Some why }; events = events }
