-- What the next step of a machine will do, known before it is made.
use Rattle.std.specs.Prelude.{ℕ, Bool, true, false, nat_le, if◌then◌else◌, Option, Some, None}
use Rattle.task_laws.specs.declared.next_step.StepKind.{StepKind}
use Rattle.task_laws.specs.declared.next_step.StepKind.TheVariants as kind
use Rattle.platform.specs.declared.stop.Stop.{Stop}
use Rattle.platform.specs.Priorities.{candidate}
use Rattle.reference.specs.State.{State, ticked}
use Rattle.reference.specs.Step.{sleeps_on}
use Rattle.platform.specs.Time.{last_tick}

-- the phase after a tick, of a machine in the entry phase or not, with a candidate or not: the cases of a step
abbrev pub kind_after : State → Option ℕ → Option ℕ → StepKind
kind_after s (Some e) exception = kind.Vector
kind_after s None (Some exception) = kind.Stack
kind_after s None None = if sleeps_on s then kind.Sleep else kind.Instruction

-- a machine whose clock is at its end would only stop
abbrev pub kind_of_running : State → Option StepKind
kind_of_running s =
    if nat_le last_tick s.bus.system.time.ticks then None
    else Some (kind_after (ticked s) s.entry (candidate (ticked s).bus.system.nvic))

abbrev pub kind_unless_stopped : State → Option Stop → Option StepKind
kind_unless_stopped s None = kind_of_running s
kind_unless_stopped s (Some why) = None

-- the kind of step that comes next: none where the machine has stopped, or would only stop
abbrev pub next_kind_of : State → Option StepKind
next_kind_of s = kind_unless_stopped s s.stop

abbrev pub is_instruction : Option StepKind → Bool
is_instruction None = false
is_instruction (Some kind.Vector) = false
is_instruction (Some kind.Stack) = false
is_instruction (Some kind.Sleep) = false
is_instruction (Some kind.Instruction) = true

-- whether the next step is an Instruction step
abbrev pub is_instruction_next : State → Bool
is_instruction_next s = is_instruction (next_kind_of s)
