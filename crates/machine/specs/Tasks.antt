-- What a run of a task leaves. What a task is, and how a run of it ends, is in Tasks of the crate `task_laws`.
use Rattle.std.specs.Prelude.{◌≡◌, ℕ, ◌+◌, ◌≤◌, true, false, None}
use Rattle.std.specs.Io.KnownBytes.{Appends, Keeps}
use Rattle.machine.specs.declared.machine.RunError.{RunError}
use Rattle.machine.specs.declared.machine.RunError.TheVariants.{Write, Broken}
use Rattle.machine.specs.Runs.{CutInStep}
use Rattle.target.specs.MachineModel.{MachineModel}
use Rattle.output.specs.Output.{Writing}
use Rattle.reference.specs.Run.{after, events_of}
use Rattle.reference.specs.State.{State}
use Rattle.platform.specs.Events.{lines}
use Rattle.task_laws.specs.declared.task.TaskEnd.{TaskEnd}
use Rattle.task_laws.specs.declared.task.TaskEnd.TheVariants as task_end
use Rattle.task_laws.specs.Tasks.{AreInstructions, EndsTask, is_task}

-- a run of at most n steps from a state ended so: `steps` steps were made, each of them an Instruction step, their
-- lines went out, and the machine is in the state after them
pub record TaskRuns (n : ℕ) (s : State) (old new : Writing) (last : State) (end : TaskEnd) : Type 0 where
  pub steps : ℕ
  pub few : steps ≤ n
  pub instructions : AreInstructions steps s
  pub state : last ≡ after steps s
  pub written : Appends old.written new.written (lines (events_of steps s))
  pub ends : EndsTask n steps last end

-- how a run of a machine ended: a machine that had stopped before made no step, since none of its steps is an
-- Instruction step; no task ran, and nothing was done; or a task ran, and its run ended so
abbrev pub TaskEnds : ℕ → MachineModel → MachineModel → Writing → Writing → TaskEnd → Type 0
TaskEnds n old new out out' task_end.NotTask =
    (old.state.stop ≡ None) × (is_task old.state ≡ false) × (new ≡ old) × Keeps out.written out'.written
TaskEnds n old new out out' task_end.Done =
    (is_task old.state ≡ true) × TaskRuns n old.state out out' new.state task_end.Done
    × (new.broken ≡ old.broken)
TaskEnds n old new out out' task_end.Other =
    (is_task old.state ≡ true) × TaskRuns n old.state out out' new.state task_end.Other
    × (new.broken ≡ old.broken)
TaskEnds n old new out out' (task_end.Stopped why) =
    (old.state.stop ≡ None → is_task old.state ≡ true)
    × TaskRuns n old.state out out' new.state (task_end.Stopped why) × (new.broken ≡ old.broken)

-- a run of at most n steps from a state was cut short by the writer: `steps` steps were made, each of them an
-- Instruction step, the machine is in the state after them, and a proper prefix of the last one's lines went out
pub record TaskIsCut (n : ℕ) (s : State) (old new : Writing) (last : State) (steps : ℕ) : Type 0 where
  pub few : steps ≤ n
  pub instructions : AreInstructions steps s
  pub state : last ≡ after steps s
  pub cut : CutInStep lines s steps old.written new.written

-- a run that failed: a task ran, and its run was cut short; or the machine was broken before, and nothing was done
abbrev pub TaskFails : ℕ → MachineModel → MachineModel → Writing → Writing → RunError → Type 0
TaskFails n old new out out' (Write steps) =
    (is_task old.state ≡ true) × TaskIsCut n old.state out out' new.state steps × (new.broken ≡ true)
TaskFails n old new out out' Broken = (new ≡ old) × Keeps out.written out'.written

-- the writer failed once in a run that it cut short, and never in one that did nothing
abbrev pub CountsErrors : Writing → Writing → RunError → Type 0
CountsErrors out out' (Write steps) = out'.errors ≡ out.errors + 1
CountsErrors out out' Broken = out'.errors ≡ out.errors
