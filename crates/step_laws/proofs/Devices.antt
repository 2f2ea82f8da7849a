-- The devices of a board stay: a step, a value and a signal change their words alone.
use Rattle.std.proofs.Common.{◌≡◌, ℕ, ◌+◌, List, [], ◌∷◌}
use Rattle.std.proofs.Common.{refl, sym, ◌∙◌}
use Rattle.std.proofs.lemmas.Bool.{cond_both}
use Rattle.devices.proofs.Copying.{same_after_load, same_after_poke, same_after_store}
use Rattle.devices.specs.declared.device.Poke.{Poke}
use Rattle.devices.specs.Copies.{HaveSameDevices}
use Rattle.devices.specs.Devices.{DeviceWords, poked, word_at}
use Rattle.devices.specs.Pokes.{poked_all}
use Rattle.platform.specs.declared.access.Request.{Request}
use Rattle.platform.specs.declared.access.Rule.{Rule}
use Rattle.platform.specs.declared.script.Signal.{Signal}
use Rattle.platform.specs.Kinds.{is_probe, is_store}
use Rattle.platform.specs.Map.{is_in_ppb}
use Rattle.platform.specs.Outcomes.{Outcome}
use Rattle.platform.specs.System.{System, after_pokes, after_signal, after_tick, device_access}
use Rattle.platform.specs.System.{on_interrupts, poke_of, pokes_of}
use Rattle.platform.specs.System.{settled}
use Rattle.platform.specs.System.{system_access, time_passed, with_devices}
use Rattle.platform.specs.Time.{events_at}
use Rattle.reference.specs.Accesses.{carried_out, decision, is_to_device, perform}
use Rattle.reference.specs.State.{Bus, State}
use Rattle.reference.specs.Step.{step}
use Rattle.step_laws.proofs.BusRules.{BusRules, bus_keeps}
use Rattle.step_laws.proofs.Parts.{system_part}
use Rattle.step_laws.proofs.Settling.{settled_part}

-- ---- lists of the same devices

pub devices_refl : (ds : List DeviceWords) → HaveSameDevices ds ds
devices_refl [] = tt
devices_refl (d ∷ ds) = (refl, devices_refl ds)

pub devices_sym : (ds es : List DeviceWords) → HaveSameDevices ds es → HaveSameDevices es ds
devices_sym [] [] h = tt
devices_sym (d ∷ ds) (e ∷ es) h = (sym h.0, devices_sym ds es h.1)
devices_sym [] (e ∷ es) h = absurd h
devices_sym (d ∷ ds) [] h = absurd h

pub devices_trans : (ds es fs : List DeviceWords) → HaveSameDevices ds es → HaveSameDevices es fs →
    HaveSameDevices ds fs
devices_trans [] [] [] h i = tt
devices_trans (d ∷ ds) (e ∷ es) (f ∷ fs) h i = (h.0 ∙ i.0, devices_trans ds es fs h.1 i.1)
devices_trans [] (e ∷ es) fs h i = absurd h
devices_trans (d ∷ ds) [] fs h i = absurd h
devices_trans [] [] (f ∷ fs) h i = absurd i
devices_trans (d ∷ ds) (e ∷ es) [] h i = absurd i

pokes_same : (ds es : List DeviceWords) (ticks : ℕ) (ps : List Poke) → HaveSameDevices ds es →
    HaveSameDevices (poked_all ds ticks ps) es
pokes_same ds es ticks [] h = h
pokes_same ds es ticks (p ∷ ps) h =
    pokes_same (poked ds ticks p.address p.value) es ticks ps (same_after_poke ds es ticks p.address p.value h)

-- ---- a register leaves them

pub system_leaves : (x : ℕ) (s : System) (rule : Rule) (q : Request) → (system_access x s rule q).after.devices ≡ s.devices
system_leaves = system_part (λ t. t.devices) (record {
  systick = λ s t. refl;
  nvic = λ s n. refl;
  status = λ s st. refl;
  mpu = λ s m. refl;
})

-- ---- what changes words

module _ (es : List DeviceWords) where
  abbrev Same : System → Type 0
  Same s = HaveSameDevices s.devices es

  abbrev LeavesSame : Outcome System → Type 0
  LeavesSame o = Same o.after

  settled_same : (s : System) → Same s → Same (settled s)
  settled_same s h = rw (settled_part (λ t. t.devices) (λ t what. refl) s) h

  after_pokes_same : (s : System) (ps : List Poke) → Same s → Same (after_pokes s ps)
  after_pokes_same s [] h = h
  after_pokes_same s (p ∷ ps) h =
      settled_same (with_devices s (poked_all s.devices s.time.ticks (p ∷ ps)))
      (pokes_same s.devices es s.time.ticks (p ∷ ps) h)

  signal_same : (s : System) (what : Signal) → Same s → Same (after_signal s what)
  unfolding after_signal
  signal_same s what h = after_pokes_same (on_interrupts s what) (poke_of what) h

  pub tick_same : (s : System) → Same s → Same (after_tick s)
  unfolding after_tick
  tick_same s h = after_pokes_same (time_passed s) (pokes_of (events_at (s.time.ticks + 1) s.time.script)) h

  device_same : (s : System) (rule : Rule) (q : Request) → Same s → LeavesSame (device_access s rule q)
  unfolding device_access
  device_same s rule q h =
      cond_both (is_store q.access.kind) _ _ LeavesSame
      (λ e. settled_same (with_devices s _)
      (same_after_store s.devices es s.time.ticks q.access.address q.access.size q.value
      (word_at s.devices q.access.address) h))
      (λ e. settled_same (with_devices s _)
      (same_after_load s.devices es s.time.ticks (word_at s.devices q.access.address) h))

  -- ---- the bus, and a step

  abbrev BusSame : Outcome Bus → Type 0
  BusSame o = Same o.after.system

  carried_same : (x : ℕ) (b : Bus) (rule : Rule) (q : Request) → Same b.system → BusSame (carried_out x b rule q)
  unfolding carried_out
  carried_same x b rule q h =
      cond_both (is_probe q.access.kind) _ _ BusSame (λ e. h)
      (λ e. cond_both (is_in_ppb q.access.address) _ _ BusSame (λ f. rw (system_leaves x b.system rule q) h)
      (λ f. cond_both (is_to_device b q.access) _ _ BusSame (λ g. device_same b.system rule q h) (λ g. h)))

  pub perform_same : (x : ℕ) (b : Bus) (q : Request) → Same b.system → BusSame (perform x b q)
  unfolding perform
  perform_same x b q h =
      cond_both (decision b q).granted _ _ BusSame (λ e. carried_same x b (decision b q).rule q h) (λ e. h)

  same_rules : BusRules (λ b events. Same b.system)
  same_rules = record {
    access = λ x tick b events q h. perform_same x b q h;
    nvic = λ b events n h. h;
    status = λ b events st h. h;
    line = λ b events e other h. h;
  }

pub step_devices : (s : State) → HaveSameDevices s.bus.system.devices (step s).state.bus.system.devices
step_devices s =
    let es = s.bus.system.devices in
    devices_sym (step s).state.bus.system.devices es
    (bus_keeps (same_rules es) s (devices_refl es) (tick_same es s.bus.system (devices_refl es)))

pub signal_devices : (s : System) (what : Signal) → HaveSameDevices s.devices (after_signal s what).devices
signal_devices s what =
    devices_sym (after_signal s what).devices s.devices (signal_same s.devices s what (devices_refl s.devices))

pub ppb_devices : (x : ℕ) (b : Bus) (rule : Rule) (q : Request) →
    HaveSameDevices b.system.devices (carried_out x b rule q).after.system.devices
ppb_devices x b rule q =
    devices_sym (carried_out x b rule q).after.system.devices b.system.devices
    (carried_same b.system.devices x b rule q (devices_refl b.system.devices))
