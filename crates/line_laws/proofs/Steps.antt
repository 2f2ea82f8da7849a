-- A step keeps what holds of the devices and their lines.
use Rattle.std.proofs.Common.{◌≡◌, ◌+◌, Bool, List, [], ◌∷◌, length, refl, ◌∙◌}
use Rattle.devices.specs.Devices.{value_at}
use Rattle.line_laws.proofs.Clock.{levels_stay}
use Rattle.line_laws.proofs.Events.{at_alike, events_leave, first_leave, others_leave}
use Rattle.line_laws.proofs.Levels.{signal_length}
use Rattle.line_laws.proofs.Settled.{Holds, nvic_holds, perform_holds, pokes_hold}
use Rattle.line_laws.specs.LineLaw.{IsSettled}
use Rattle.platform.specs.declared.script.ScriptedEvent.{ScriptedEvent}
use Rattle.platform.specs.System.{System, after_tick, pokes_of, time_passed}
use Rattle.platform.specs.SystemInvariant.{table_of}
use Rattle.platform.specs.Time.{due_count, events_at, time_after_tick, with_events, with_signal}
use Rattle.reference.specs.Invariant.{Invariant}
use Rattle.reference.specs.State.{State}
use Rattle.reference.specs.Step.{step}
use Rattle.step_laws.proofs.BusRules.{BusRules, bus_keeps}

-- ---- a tick

events_length : (high : List Bool) (events : List ScriptedEvent) → length (with_events high events) ≡ length high
events_length high [] = refl
events_length high (e ∷ events) = events_length (with_signal high e.what) events ∙ signal_length high e.what

passed_holds : (s : System) → Holds s → Holds (time_passed s)
unfolding time_after_tick
passed_holds s h =
    let ds = table_of s.devices in
    let due = due_count (s.time.ticks + 1) s.time.script in
    record {
      wired = record {
        apart = h.wired.apart;
        steady = h.wired.steady;
        script = others_leave ds due s.time.script h.wired.script;
      };
      inputs = events_length s.time.high (events_at (s.time.ticks + 1) s.time.script) ∙ h.inputs;
      lines =
          rw (levels_stay s.devices (s.time.ticks + 1) s.time.ticks h.wired.steady)
          (at_alike (value_at s.devices s.time.ticks) s.devices s.time (time_after_tick s.time)
          (λ n driven. events_leave ds n driven s.time.high (events_at (s.time.ticks + 1) s.time.script)
          (first_leave ds due s.time.script h.wired.script))
          h.lines);
    }

tick_holds : (s : System) → Holds s → Holds (after_tick s)
unfolding after_tick
tick_holds s h =
    pokes_hold (time_passed s) (pokes_of (events_at (s.time.ticks + 1) s.time.script)) (passed_holds s h)

-- ---- a step

hold_rules : BusRules (λ b events. Holds b.system)
hold_rules = record {
  access = λ x tick b events q h. perform_holds x b q h;
  nvic = λ b events n h. nvic_holds b.system n h;
  status = λ b events st h. record { wired = h.wired; inputs = h.inputs; lines = h.lines };
  line = λ b events e other h. h;
}

pub held : (s : State) → Invariant s → IsSettled s → Holds s.bus.system
held s i h = record { wired = h.wired; inputs = i.system.script.high; lines = h.lines }

pub settled_of : (s : State) → Holds s.bus.system → IsSettled s
settled_of s h = record { wired = h.wired; lines = h.lines }

pub step_settled : (s : State) → Invariant s → IsSettled s → IsSettled (step s).state
step_settled s i h =
    let before = held s i h in
    settled_of (step s).state (bus_keeps hold_rules s before (tick_holds s.bus.system before))
