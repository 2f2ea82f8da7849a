-- What settles changes the exceptions and which interrupts are high, and nothing else: neither do pokes, but for the
-- words of devices.
use Rattle.std.proofs.Common.{◌≡◌, ℕ, ◌+◌, Bool, not, List, [], ◌∷◌, refl, ◌∙◌}
use Rattle.std.proofs.lemmas.Bool.{cond_both}
use Rattle.devices.specs.declared.device.Poke.{Poke}
use Rattle.devices.specs.declared.level.Level.{Level}
use Rattle.devices.specs.Lines.{levels}
use Rattle.devices.specs.Pokes.{poked_all}
use Rattle.platform.specs.declared.access.Request.{Request}
use Rattle.platform.specs.declared.access.Rule.{Rule}
use Rattle.platform.specs.declared.script.Signal.{Signal}
use Rattle.platform.specs.declared.script.Signal.TheVariants.{Fall, Rise}
use Rattle.platform.specs.Kinds.{is_store}
use Rattle.platform.specs.Outcomes.{Outcome}
use Rattle.platform.specs.System.{System, after_pokes, after_signal, after_tick, device_access, on_interrupts, poke_of}
use Rattle.platform.specs.Priorities.{Nvic}
use Rattle.platform.specs.System.{pokes_of, settled, time_passed, with_devices, with_level, with_levels, with_pended}
use Rattle.platform.specs.Time.{events_at, is_high, pends, tick_pends}

-- a part that neither exceptions, nor interrupts, nor words of devices are in
module _ {A : Type 0} (part : System → A)
    (apart : (s : System) (what : Signal) → part (on_interrupts s what) ≡ part s) where
  level_part : (s : System) (l : Level) → part (with_level s l) ≡ part s
  level_part s l =
      cond_both (not l.is_high) _ _ (λ (t : System). part t ≡ part s) (λ e. apart s (Fall l.number))
      (λ e. cond_both (is_high s.time l.number) _ _ (λ (t : System). part t ≡ part s) (λ f. refl)
      (λ f. apart s (Rise l.number)))

  levels_part : (s : System) (ls : List Level) → part (with_levels s ls) ≡ part s
  levels_part s [] = refl
  levels_part s (l ∷ ls) = levels_part (with_level s l) ls ∙ level_part s l

  pub settled_part : (s : System) → part (settled s) ≡ part s
  unfolding settled
  settled_part s = levels_part s (levels s.devices s.time.ticks)

-- ---- the registers of the MPU

pub settled_mpu : (s : System) → (settled s).mpu ≡ s.mpu
settled_mpu s = settled_part (λ t. t.mpu) (λ t what. refl) s

pub pokes_mpu : (s : System) (ps : List Poke) → (after_pokes s ps).mpu ≡ s.mpu
pokes_mpu s [] = refl
pokes_mpu s (p ∷ ps) = settled_mpu (with_devices s (poked_all s.devices s.time.ticks (p ∷ ps)))

pub device_mpu : (s : System) (rule : Rule) (q : Request) → (device_access s rule q).after.mpu ≡ s.mpu
unfolding device_access
device_mpu s rule q =
    cond_both (is_store q.access.kind) _ _ (λ (o : Outcome System). o.after.mpu ≡ s.mpu)
    (λ e. settled_mpu (with_devices s _)) (λ e. settled_mpu (with_devices s _))

pub tick_mpu : (s : System) → (after_tick s).mpu ≡ s.mpu
unfolding after_tick
tick_mpu s = pokes_mpu (time_passed s) (pokes_of (events_at (s.time.ticks + 1) s.time.script))

-- ---- the exceptions: what becomes pending keeps what is kept where exceptions become pending

module _ (P : Nvic → Type 0) (pended : (n : Nvic) (test : ℕ → Bool) → P n → P (with_pended n test)) where
  interrupts_nvic : (s : System) (what : Signal) → P s.nvic → P (on_interrupts s what).nvic
  interrupts_nvic s what h = pended s.nvic (pends what) h

  level_nvic : (s : System) (l : Level) → P s.nvic → P (with_level s l).nvic
  level_nvic s l h =
      cond_both (not l.is_high) _ _ (λ (t : System). P t.nvic) (λ e. interrupts_nvic s (Fall l.number) h)
      (λ e. cond_both (is_high s.time l.number) _ _ (λ (t : System). P t.nvic) (λ f. h)
      (λ f. interrupts_nvic s (Rise l.number) h))

  levels_nvic : (s : System) (ls : List Level) → P s.nvic → P (with_levels s ls).nvic
  levels_nvic s [] h = h
  levels_nvic s (l ∷ ls) h = levels_nvic (with_level s l) ls (level_nvic s l h)

  pub settled_nvic : (s : System) → P s.nvic → P (settled s).nvic
  unfolding settled
  settled_nvic s h = levels_nvic s (levels s.devices s.time.ticks) h

  pokes_nvic : (s : System) (ps : List Poke) → P s.nvic → P (after_pokes s ps).nvic
  pokes_nvic s [] h = h
  pokes_nvic s (p ∷ ps) h = settled_nvic (with_devices s (poked_all s.devices s.time.ticks (p ∷ ps))) h

  pub signal_nvic : (s : System) (what : Signal) → P s.nvic → P (after_signal s what).nvic
  unfolding after_signal
  signal_nvic s what h = pokes_nvic (on_interrupts s what) (poke_of what) (interrupts_nvic s what h)

  pub device_nvic : (s : System) (rule : Rule) (q : Request) → P s.nvic → P (device_access s rule q).after.nvic
  unfolding device_access
  device_nvic s rule q h =
      cond_both (is_store q.access.kind) _ _ (λ (o : Outcome System). P o.after.nvic)
      (λ e. settled_nvic (with_devices s _) h) (λ e. settled_nvic (with_devices s _) h)

  pub tick_nvic : (s : System) → P s.nvic → P (after_tick s).nvic
  unfolding after_tick
  tick_nvic s h =
      pokes_nvic (time_passed s) (pokes_of (events_at (s.time.ticks + 1) s.time.script))
      (pended s.nvic (tick_pends s.time) h)
