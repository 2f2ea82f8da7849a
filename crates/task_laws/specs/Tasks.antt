-- A task: code that runs in unprivileged Thread mode while the regions of the MPU decide its accesses (ARM DDI 0403,
-- "Operating modes", "Privileged and unprivileged execution", "MPU_CTRL"), and how a run of it ends.
use Rattle.std.specs.Prelude.{◌≡◌, ℕ, ◌<◌, Bool, true, false, not, ◌&&◌, is_some, Some, None}
use Rattle.instruction_set.specs.Registers.{is_handler}
use Rattle.platform.specs.Priorities.{is_below_zero}
use Rattle.platform.specs.Regions.{is_on}
use Rattle.platform.specs.Rules.{is_off_below_zero}
use Rattle.reference.specs.Run.{after}
use Rattle.reference.specs.State.{State}
use Rattle.platform.specs.System.{System}
use Rattle.task_laws.specs.declared.task.TaskEnd.{TaskEnd}
use Rattle.task_laws.specs.declared.task.TaskEnd.TheVariants as task_end
use Rattle.task_laws.specs.NextStep.{is_instruction_next}

-- whether the regions decide: MPU_CTRL.ENABLE is 1, and HFNMIENA is 1 or the execution priority isn't below 0
abbrev pub uses_regions : System → Bool
uses_regions s = is_on s.mpu.control && not (is_off_below_zero s.mpu.control (is_below_zero s.nvic))

-- whether code runs in unprivileged Thread mode, outside the entry phase
abbrev pub runs_unprivileged : State → Bool
runs_unprivileged s = not (is_handler s.registers) && s.registers.unprivileged && not (is_some s.entry)

-- whether a task runs: unprivileged code in Thread mode, outside the entry phase, while the regions decide
abbrev pub is_task : State → Bool
is_task s = runs_unprivileged s && uses_regions s.bus.system

-- each of the next n steps is an Instruction step
abbrev pub AreInstructions : ℕ → State → Type 0
AreInstructions n s = (k : ℕ) → k < n → is_instruction_next (after k s) ≡ true

-- why a run of at most n steps ended after `steps` of them: the machine stopped; or all n steps were made; or the next
-- one wouldn't be an Instruction step
abbrev pub EndsTask : ℕ → ℕ → State → TaskEnd → Type 0
EndsTask n steps last task_end.Done = (steps ≡ n) × (last.stop ≡ None)
EndsTask n steps last task_end.Other = (steps < n) × (last.stop ≡ None) × (is_instruction_next last ≡ false)
EndsTask n steps last (task_end.Stopped why) = last.stop ≡ Some why
EndsTask n steps last task_end.NotTask = ⊥
