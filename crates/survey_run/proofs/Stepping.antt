-- A step that is counted, and the registers of the MPU after a step.
use Rattle.std.proofs.Common.{◌≡◌, ◌∙◌, refl, sym, ap, ℕ, ◌+◌, ◌<◌, ◌^◌, nat_le, Bool, true, false, List, [], ◌∷◌}
use Rattle.std.proofs.Common.{arith}
use Rattle.std.proofs.lemmas.Bool.Decides.{nat_tests}
use Rattle.access_map.specs.Counting.{Worlds, counted}
use Rattle.access_map.specs.declared.world.World.{World}
use Rattle.devices.specs.declared.device.Poke.{Poke}
use Rattle.devices.specs.Pokes.{poked_all}
use Rattle.platform.specs.Priorities.{is_below_zero}
use Rattle.platform.specs.Regions.{Mpu}
use Rattle.platform.specs.System.{System, after_pokes, after_tick, pokes_of, time_passed, with_devices}
use Rattle.platform.specs.Time.{events_at, time_after_tick}
use Rattle.reference.specs.State.{State}
use Rattle.reference.specs.Step.{step}
use Rattle.step_laws.proofs.Settling.{settled_part}
use Rattle.survey.proofs.Regions.{regions_stay}
use Rattle.survey.specs.RegionLaw.{some_writes_system}
use Rattle.task_laws.proofs.Instructions.{instruction_is}
use Rattle.task_laws.specs.NextStep.{is_instruction_next}
use Rattle.survey_run.specs.WorldRuns.{next_tick, world_of}

-- after a step without such a write the registers of the MPU are as before
pub still_known : (s : State) (wrote : Bool) (mpu : Mpu) → mpu ≡ s.bus.system.mpu
    → wrote ≡ some_writes_system (step s).events → wrote ≡ false → (step s).state.bus.system.mpu ≡ mpu
still_known s wrote mpu is wrote_is none = regions_stay s (sym wrote_is ∙ none) ∙ sym is

-- pokes leave the clock
pokes_ticks : (s : System) (ps : List Poke) → (after_pokes s ps).time.ticks ≡ s.time.ticks
pokes_ticks s [] = refl
pokes_ticks s (p ∷ ps) =
    settled_part (λ t. t.time.ticks) (λ t what. refl)
    (with_devices s (poked_all s.devices s.time.ticks (p ∷ ps)))

-- the next tick is one more
next_is_one_more : (s : State) → next_tick s ≡ s.bus.system.time.ticks + 1
unfolding next_tick after_tick time_after_tick
next_is_one_more s =
    let t = s.bus.system in
    pokes_ticks (time_passed t) (pokes_of (events_at (t.time.ticks + 1) t.time.script))

-- the clock of a machine that makes an Instruction step isn't at its end
pub clock_goes_on : (s : State) → is_instruction_next s ≡ true → s.bus.system.time.ticks < 2 ^ 48
clock_goes_on s next =
    let early : nat_le (2 ^ 48) s.bus.system.time.ticks ≡ false = (instruction_is s next).early in
    grind (arith, nat_tests, early)

-- a world of these parts
abbrev world_with : Mpu → Bool → World
world_with m b = record { registers = m; below_zero = b }

world_is : (s : State) (w : World) → w.registers ≡ s.bus.system.mpu → w.below_zero ≡ is_below_zero s.bus.system.nvic
    → w ≡ world_of s
world_is s w same below =
    ap (λ (m : Mpu). world_with m w.below_zero) same ∙ ap (λ (b : Bool). world_with s.bus.system.mpu b) below

-- a step is counted in the world of the machine
pub counted_now : (s : State) (v : Worlds) (w : World) (pc : ℕ) → w.registers ≡ s.bus.system.mpu
    → w.below_zero ≡ is_below_zero s.bus.system.nvic
    → counted v w (s.bus.system.time.ticks + 1) pc ≡ counted v (world_of s) (next_tick s) pc
counted_now s v w pc same below =
    ap (λ (x : World). counted v x (s.bus.system.time.ticks + 1) pc) (world_is s w same below)
    ∙ ap (λ (n : ℕ). counted v (world_of s) n pc) (sym (next_is_one_more s))
