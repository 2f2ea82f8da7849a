-- What settles has settled lines; so have the devices after pokes, and after each access.
use Rattle.std.proofs.Common.{◌≡◌, ℕ, Bool, List, [], ◌∷◌, length, refl, ap, ◌∙◌}
use Rattle.std.proofs.lemmas.Bool.{cond_both}
use Rattle.devices.specs.declared.device.Poke.{Poke}
use Rattle.devices.specs.declared.level.Level.{Level}
use Rattle.devices.specs.Devices.{DeviceWords, after_store_at, loaded, value_at}
use Rattle.devices.specs.Lines.{levels}
use Rattle.devices.specs.Pokes.{poked_all}
use Rattle.line_laws.proofs.Levels.{HasInputs, devices_reached, signal_length}
use Rattle.step_laws.proofs.Parts.{system_part}
use Rattle.line_laws.specs.LineLaw.{AreAt, HasSettledLines}
use Rattle.nvic.proofs.Tables.{table_loaded, table_poked_all, table_stored}
use Rattle.platform.specs.declared.access.Request.{Request}
use Rattle.platform.specs.declared.access.Rule.{Rule}
use Rattle.platform.specs.declared.script.ScriptedEvent.{ScriptedEvent}
use Rattle.platform.specs.Kinds.{is_probe, is_store}
use Rattle.platform.specs.Map.{is_in_ppb}
use Rattle.platform.specs.Outcomes.{Outcome}
use Rattle.platform.specs.Priorities.{Nvic}
use Rattle.platform.specs.System.{System, after_pokes, device_access, settled, system_access, with_devices, with_nvic}
use Rattle.platform.specs.SystemInvariant.{table_of}
use Rattle.platform.specs.Time.{Time}
use Rattle.reference.specs.Accesses.{carried_out, decision, is_to_device, perform}
use Rattle.reference.specs.State.{Bus}
use Rattle.step_laws.proofs.Settling.{settled_part}
use Rattle.platform.specs.Wiring.{AreWired, DriveApart}

-- what holds inside a step: the devices go together with the rest of the script, and their lines have settled
pub record Holds (s : System) : Type 0 where
  pub wired : AreWired (table_of s.devices) s.time.script
  pub inputs : HasInputs s
  pub lines : HasSettledLines s

-- ---- what settles

reached : (s : System) → DriveApart (table_of s.devices) → HasInputs s
    → AreAt (settled s).time (levels s.devices s.time.ticks)
unfolding settled
reached s apart h = devices_reached s (value_at s.devices s.time.ticks) s.devices apart h

settled_devices : (s : System) → (settled s).devices ≡ s.devices
settled_devices s = settled_part (λ t. t.devices) (λ t what. refl) s

settled_script : (s : System) → (settled s).time.script ≡ s.time.script
settled_script s = settled_part (λ t. t.time.script) (λ t what. refl) s

settled_ticks : (s : System) → (settled s).time.ticks ≡ s.time.ticks
settled_ticks s = settled_part (λ t. t.time.ticks) (λ t what. refl) s

pub settled_holds : (s : System) → AreWired (table_of s.devices) s.time.script → HasInputs s → Holds (settled s)
settled_holds s wired h = record {
  wired = rw (settled_devices s, settled_script s) wired;
  inputs = settled_part (λ t. length t.time.high) (λ t what. signal_length t.time.high what) s ∙ h;
  lines = rw (settled_devices s, settled_ticks s) (reached s wired.apart h);
}

-- words that changed, after which the lines settle
changed_holds : (s : System) (words : List DeviceWords) → table_of words ≡ table_of s.devices → Holds s
    → Holds (settled (with_devices s words))
changed_holds s words same h = settled_holds (with_devices s words) (rw same h.wired) h.inputs

pub pokes_hold : (s : System) (ps : List Poke) → Holds s → Holds (after_pokes s ps)
pokes_hold s [] h = h
pokes_hold s (p ∷ ps) h =
    changed_holds s (poked_all s.devices s.time.ticks (p ∷ ps)) (table_poked_all s.devices s.time.ticks (p ∷ ps)) h

-- ---- an access

abbrev LeavesHolding : Outcome System → Type 0
LeavesHolding o = Holds o.after

device_holds : (s : System) (rule : Rule) (q : Request) → Holds s → LeavesHolding (device_access s rule q)
unfolding device_access
device_holds s rule q h =
    cond_both (is_store q.access.kind) _ _ LeavesHolding
    (λ e. changed_holds s (after_store_at s.devices s.time.ticks q.access.address q.access.size q.value)
    (table_stored s.devices s.time.ticks q.access.address q.access.size q.value) h)
    (λ e. changed_holds s (loaded s.devices s.time.ticks q.access.address)
    (table_loaded s.devices s.time.ticks q.access.address) h)

at_same : (t u : Time) (ls : List Level) → u.high ≡ t.high → AreAt t ls → AreAt u ls
at_same t u [] same h = tt
at_same t u (l ∷ ls) same h = (rw same h.0, at_same t u ls same h.1)

-- what it is said of
abbrev wires : System → List DeviceWords × (ℕ × (List Bool × List ScriptedEvent))
wires s = (s.devices, (s.time.ticks, (s.time.high, s.time.script)))

alike_holds : (s t : System) → wires t ≡ wires s → Holds s → Holds t
alike_holds s t same h =
    let devices : t.devices ≡ s.devices = ap (λ w. w.0) same in
    let ticks : t.time.ticks ≡ s.time.ticks = ap (λ w. w.1.0) same in
    let high : t.time.high ≡ s.time.high = ap (λ w. w.1.1.0) same in
    let script : t.time.script ≡ s.time.script = ap (λ w. w.1.1.1) same in
    record {
      wired = rw (devices, script) h.wired;
      inputs = rw high h.inputs;
      lines = rw (devices, ticks) (at_same s.time t.time (levels s.devices s.time.ticks) high h.lines);
    }

system_holds : (x : ℕ) (s : System) (rule : Rule) (q : Request) → Holds s → LeavesHolding (system_access x s rule q)
system_holds x s rule q h =
    alike_holds s (system_access x s rule q).after
    (system_part wires (record {
      systick = λ t timer. refl;
      nvic = λ t n. refl;
      status = λ t st. refl;
      mpu = λ t m. refl;
    }) x s rule q) h

abbrev BusHolds : Outcome Bus → Type 0
BusHolds o = Holds o.after.system

pub carried_holds : (x : ℕ) (b : Bus) (rule : Rule) (q : Request) → Holds b.system → BusHolds (carried_out x b rule q)
unfolding carried_out
carried_holds x b rule q h =
    cond_both (is_probe q.access.kind) _ _ BusHolds (λ e. h)
    (λ e. cond_both (is_in_ppb q.access.address) _ _ BusHolds (λ f. system_holds x b.system rule q h)
    (λ f. cond_both (is_to_device b q.access) _ _ BusHolds (λ g. device_holds b.system rule q h) (λ g. h)))

pub perform_holds : (x : ℕ) (b : Bus) (q : Request) → Holds b.system → BusHolds (perform x b q)
unfolding perform
perform_holds x b q h =
    cond_both (decision b q).granted _ _ BusHolds (λ e. carried_holds x b (decision b q).rule q h) (λ e. h)

-- ---- other changes

pub nvic_holds : (s : System) (n : Nvic) → Holds s → Holds (with_nvic s n)
nvic_holds s n h = record { wired = h.wired; inputs = h.inputs; lines = h.lines }
