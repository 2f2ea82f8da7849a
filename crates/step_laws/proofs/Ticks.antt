-- A step of a machine that hasn't stopped takes one tick.
use Rattle.std.proofs.Common.{◌≡◌, ◌∙◌, ℕ, ◌+◌, ◌<◌, nat_le, false, List, [], ◌∷◌}
use Rattle.std.proofs.Common.{None, arith, refl}
use Rattle.std.proofs.lemmas.Bool.{cond_both}
use Rattle.std.proofs.lemmas.Bool.Decides.{nat_tests}
use Rattle.devices.specs.declared.device.Poke.{Poke}
use Rattle.devices.specs.Pokes.{poked_all}
use Rattle.platform.specs.declared.access.Request.{Request}
use Rattle.platform.specs.declared.access.Rule.{Rule}
use Rattle.platform.specs.Kinds.{is_probe, is_store}
use Rattle.platform.specs.Map.{is_in_ppb}
use Rattle.platform.specs.Outcomes.{Outcome}
use Rattle.platform.specs.System.{System, after_pokes, after_tick, device_access}
use Rattle.platform.specs.System.{pokes_of}
use Rattle.platform.specs.System.{settled, system_access, time_passed, with_devices}
use Rattle.platform.specs.Time.{events_at, last_tick, time_after_tick}
use Rattle.reference.specs.Accesses.{carried_out, decision, is_to_device, perform}
use Rattle.reference.specs.State.{Bus, State}
use Rattle.reference.specs.Step.{step}
use Rattle.step_laws.proofs.BusRules.{BusRules, bus_made_keeps}
use Rattle.step_laws.proofs.Parts.{system_part}
use Rattle.step_laws.proofs.Settling.{settled_part}

-- ---- an access leaves the clock

abbrev Leaves : System → Outcome System → Type 0
Leaves s o = o.after.time.ticks ≡ s.time.ticks

system_leaves : (x : ℕ) (s : System) (rule : Rule) (q : Request) → Leaves s (system_access x s rule q)
system_leaves = system_part (λ t. t.time.ticks) (record {
  systick = λ s t. refl;
  nvic = λ s n. refl;
  status = λ s st. refl;
  mpu = λ s m. refl;
})

settled_leaves : (s : System) → (settled s).time.ticks ≡ s.time.ticks
settled_leaves s = settled_part (λ t. t.time.ticks) (λ t what. refl) s

device_leaves : (s : System) (rule : Rule) (q : Request) → Leaves s (device_access s rule q)
unfolding device_access
device_leaves s rule q =
    cond_both (is_store q.access.kind) _ _ (Leaves s) (λ e. settled_leaves (with_devices s _))
    (λ e. settled_leaves (with_devices s _))

carried_leaves : (x : ℕ) (b : Bus) (rule : Rule) (q : Request)
    → (carried_out x b rule q).after.system.time.ticks ≡ b.system.time.ticks
unfolding carried_out
carried_leaves x b rule q =
    let LeavesBus : Outcome Bus → Type 0 = λ o. o.after.system.time.ticks ≡ b.system.time.ticks in
    cond_both (is_probe q.access.kind) _ _ LeavesBus (λ e. refl)
    (λ e. cond_both (is_in_ppb q.access.address) _ _ LeavesBus (λ f. system_leaves x b.system rule q)
    (λ f. cond_both (is_to_device b q.access) _ _ LeavesBus (λ g. device_leaves b.system rule q) (λ g. refl)))

perform_leaves : (x : ℕ) (b : Bus) (q : Request)
    → (perform x b q).after.system.time.ticks ≡ b.system.time.ticks
unfolding perform
perform_leaves x b q =
    cond_both (decision b q).granted _ _ (λ (o : Outcome Bus). o.after.system.time.ticks ≡ b.system.time.ticks)
    (λ e. carried_leaves x b (decision b q).rule q) (λ e. refl)

-- ---- the tick

pokes_leave : (s : System) (ps : List Poke) → (after_pokes s ps).time.ticks ≡ s.time.ticks
pokes_leave s [] = refl
pokes_leave s (p ∷ ps) = settled_leaves (with_devices s (poked_all s.devices s.time.ticks (p ∷ ps)))

tick_counts : (s : System) → (after_tick s).time.ticks ≡ s.time.ticks + 1
unfolding after_tick time_after_tick
tick_counts s = pokes_leave (time_passed s) (pokes_of (events_at (s.time.ticks + 1) s.time.script))

-- ---- a step

ticks_rules : (n : ℕ) → BusRules (λ b events. b.system.time.ticks ≡ n)
ticks_rules n = record {
  access = λ x tick b events q h. perform_leaves x b q ∙ h;
  nvic = λ b events n h. h;
  status = λ b events st h. h;
  line = λ b events e other h. h;
}

pub step_takes_tick : (s : State) → s.stop ≡ None → s.bus.system.time.ticks < last_tick
    → (step s).state.bus.system.time.ticks ≡ s.bus.system.time.ticks + 1
step_takes_tick s goes before =
    let early : nat_le last_tick s.bus.system.time.ticks ≡ false = grind (arith, nat_tests) in
    bus_made_keeps (ticks_rules (s.bus.system.time.ticks + 1)) s goes early (tick_counts s.bus.system)
