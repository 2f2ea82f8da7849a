-- The events of the script, and signals, leave the interrupts that devices drive.
use Rattle.std.proofs.Common.{◌≡◌, ◌≢◌, ℕ, zero, suc, Bool, true, false, ◌||◌, ◌++◌, List, [], ◌∷◌, Option, Some, None}
use Rattle.std.proofs.Common.{drop, refl, take, ◌∙◌}
use Rattle.std.proofs.lemmas.Bool.{both_ways, eq-eqb, or_left}
use Rattle.std.proofs.lemmas.List.{get_or-set_other}
use Rattle.std.specs.Prelude.{slice_index_or}
use Rattle.devices.specs.declared.device.Device.{Device}
use Rattle.devices.specs.declared.device.Line.{Line}
use Rattle.devices.specs.Devices.{DeviceWords}
use Rattle.devices.specs.Lines.{is_line_of, level_of, level_on, levels_by}
use Rattle.line_laws.specs.LineLaw.{AreAt}
use Rattle.platform.specs.declared.script.ScriptedEvent.{ScriptedEvent}
use Rattle.platform.specs.declared.script.Signal.{Signal}
use Rattle.platform.specs.declared.script.Signal.TheVariants.{Rise, Fall, Pulse, Nmi, Poke}
use Rattle.platform.specs.SystemInvariant.{table_of}
use Rattle.platform.specs.Time.{Time, is_high, with_events, with_signal}
use Rattle.platform.specs.Wiring.{LeavesDriven, is_driven, is_on_driven}

-- ---- signals on other interrupts

module _ (ds : List Device) (n : ℕ) (driven : is_driven ds n ≡ true) where
  undriven : (interrupt : ℕ) → is_driven ds interrupt ≡ false → n ≢ interrupt
  undriven interrupt free = λ same. both_ways (is_driven ds interrupt) free (rw same at driven)

  pub signal_leaves : (high : List Bool) (what : Signal) → is_on_driven ds what ≡ false
      → slice_index_or (with_signal high what) n false ≡ slice_index_or high n false
  signal_leaves high (Rise interrupt) free = get_or-set_other high interrupt n true false (undriven interrupt free)
  signal_leaves high (Fall interrupt) free = get_or-set_other high interrupt n false false (undriven interrupt free)
  signal_leaves high (Pulse interrupt) free = refl
  signal_leaves high Nmi free = refl
  signal_leaves high (Poke p) free = refl

  pub events_leave : (high : List Bool) (events : List ScriptedEvent) → LeavesDriven ds events
      → slice_index_or (with_events high events) n false ≡ slice_index_or high n false
  events_leave high [] free = refl
  events_leave high (e ∷ events) free =
      events_leave (with_signal high e.what) events free.1 ∙ signal_leaves high e.what free.0

-- ---- parts of a script

pub first_leave : (ds : List Device) (n : ℕ) (script : List ScriptedEvent) → LeavesDriven ds script
    → LeavesDriven ds (take n script)
first_leave ds zero script free = tt
first_leave ds (suc n) [] free = tt
first_leave ds (suc n) (e ∷ script) free = (free.0, first_leave ds n script free.1)

pub others_leave : (ds : List Device) (n : ℕ) (script : List ScriptedEvent) → LeavesDriven ds script
    → LeavesDriven ds (drop n script)
others_leave ds zero script free = free
others_leave ds (suc n) [] free = tt
others_leave ds (suc n) (e ∷ script) free = others_leave ds n script free.1

-- ---- interrupts that stay are at the same levels

-- each interrupt that these devices drive is high in both or in neither
abbrev pub DrivenAlike : List DeviceWords → Time → Time → Type 0
DrivenAlike ds t u = (n : ℕ) → is_driven (table_of ds) n ≡ true → is_high u n ≡ is_high t n

or_right : (a b : Bool) → b ≡ true → (a || b) ≡ true
or_right true b e = refl
or_right false b e = e

pub at_alike : (value : ℕ → Option ℕ) (ds : List DeviceWords) (t u : Time) → DrivenAlike ds t u
    → AreAt t (levels_by value ds) → AreAt u (levels_by value ds)
unfolding level_on
at_alike value [] t u alike h = tt
at_alike value (d ∷ ds) t u alike h =
    by d.device.line (λ n e. alike n (or_left _ _ e)) (at_alike value ds t u (λ n e. alike n (or_right _ _ e))) h
  where
    by : (line : Option Line) → ((n : ℕ) → is_line_of line n ≡ true → is_high u n ≡ is_high t n)
        → (AreAt t (levels_by value ds) → AreAt u (levels_by value ds))
        → AreAt t (level_of value d.device line ++ levels_by value ds)
        → AreAt u (level_of value d.device line ++ levels_by value ds)
    by None same rest h = rest h
    by (Some line) same rest h =
        (same line.number (eq-eqb line.number line.number refl) ∙ h.0, rest h.1)
