-- The law of two runs by `run_task`, of machines whose states look the same to the task.
use Rattle.std.specs.Prelude.{◌≡◌, ℕ, List}
use Rattle.std.specs.Io.KnownBytes.{Appends}
use Rattle.machine.specs.Tasks.{TaskEnds}
use Rattle.target.specs.MachineModel.{MachineModel}
use Rattle.output.specs.Output.{Writing}
use Rattle.platform.specs.Events.{lines}
use Rattle.reference.specs.Invariant.{Invariant}
use Rattle.reference.specs.Run.{after, events_of}
use Rattle.task_laws.specs.declared.task.TaskEnd.{TaskEnd}
use Rattle.task_laws.specs.Sight.{Same}
use Rattle.task_laws.specs.Tasks.{AreInstructions}

-- a call of `run_task` that returned `Ok(end)`: the machine and the writer before it and after it
pub record TaskRun : Type 0 where
  pub old : MachineModel
  pub new : MachineModel
  pub before : Writing
  pub later : Writing
  pub end : TaskEnd

-- what the contract of `run_task` says of a call with the limit n
abbrev pub IsTaskRun : ℕ → TaskRun → Type 0
IsTaskRun n r = TaskEnds n r.old r.new r.before r.later r.end

-- a call made `steps` steps, each of them an Instruction step, and the writer took a text
pub record Makes (steps : ℕ) (text : List ℕ) (r : TaskRun) : Type 0 where
  pub instructions : AreInstructions steps r.old.state
  pub state : r.new.state ≡ after steps r.old.state
  pub written : Appends r.before.written r.later.written text

-- Two calls had the same answer, made equally many steps and wrote the same text, that of these steps. The states after
-- them look the same.
pub record RanAlike (one two : TaskRun) : Type 0 where
  pub end : two.end ≡ one.end
  pub steps : ℕ
  pub here : Makes steps (lines (events_of steps one.old.state)) one
  pub there : Makes steps (lines (events_of steps one.old.state)) two
  pub same : Same one.new.state two.new.state

-- two calls with one limit, of machines whose states look the same before, ran alike
abbrev pub TaskRunsLaw : ℕ → TaskRun → TaskRun → Type 0
TaskRunsLaw n one two =
    Invariant one.old.state → Same one.old.state two.old.state → IsTaskRun n one → IsTaskRun n two → RanAlike one two
