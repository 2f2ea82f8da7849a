-- The worlds of a run: the steps that run in each of them are counted (profile).
use Rattle.std.specs.Prelude.{ℕ, zero, suc, Bool, not, ◌&&◌, if◌then◌else◌}
use Rattle.access_map.specs.Counting.{Worlds, counted}
use Rattle.access_map.specs.declared.world.World.{World}
use Rattle.instruction_set.specs.Registers.{is_handler}
use Rattle.platform.specs.Priorities.{is_below_zero}
use Rattle.reference.specs.Run.{after}
use Rattle.reference.specs.State.{State, ticked}
use Rattle.task_laws.specs.NextStep.{is_instruction_next}

-- the world of a state: the registers of the MPU, and whether the execution priority is below 0
abbrev pub world_of : State → World
world_of s = record { registers = s.bus.system.mpu; below_zero = is_below_zero s.bus.system.nvic }

-- the next step runs in the world of the state: it is an Instruction step that begins in Thread mode, unprivileged
unfoldable pub runs_in_world : State → Bool
runs_in_world s = (not (is_handler s.registers) && s.registers.unprivileged) && is_instruction_next s

-- the tick of the next step, which its lines have
unfoldable pub next_tick : State → ℕ
next_tick s = (ticked s).bus.system.time.ticks

-- the worlds after the next step, which is counted where it runs in the world of the state
unfoldable pub with_step : State → Worlds → Worlds
with_step s v = if runs_in_world s then counted v (world_of s) (next_tick s) s.registers.pc else v

-- the worlds after n steps from a state
unfoldable pub worlds_after : ℕ → State → Worlds → Worlds
worlds_after zero s v = v
worlds_after (suc n) s v = with_step (after n s) (worlds_after n s v)
