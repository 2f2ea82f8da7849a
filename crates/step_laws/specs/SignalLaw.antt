-- A signal of an interrupt or of NMI between two steps is the first event of the next tick (profile). A poke isn't: it
-- comes before the tick, by which counting words go on, and lines settle after it and after the tick.
use Rattle.std.specs.Prelude.{◌≡◌, ◌+◌, [], ◌∷◌, false, nat_le, None}
use Rattle.platform.specs.declared.script.Signal.{Signal}
use Rattle.platform.specs.Time.{last_tick}
use Rattle.platform.specs.System.{after_signal, poke_of}
use Rattle.reference.specs.State.{State, with_system}
use Rattle.reference.specs.Step.{step}

-- the state whose script has the signal as the first event of the next tick
abbrev pub with_event_first : State → Signal → State
with_event_first s what = with_system s (record s.bus.system {
  time = record s.bus.system.time {
    script = record { at = s.bus.system.time.ticks + 1; what = what } ∷ s.bus.system.time.script;
  };
})

-- the next step of a machine that runs has the same events, and the same state after it
abbrev pub SignalIsEvent : State → Signal → Type 0
SignalIsEvent s what =
    poke_of what ≡ [] → s.stop ≡ None → nat_le last_tick s.bus.system.time.ticks ≡ false →
    step (with_event_first s what) ≡ step (with_system s (after_signal s.bus.system what))
