-- The clock, SysTick, the script and the interrupts: a tick, and the registers of SysTick.
use Rattle.std.proofs.Common.{◌≡◌, ℕ, zero, suc, ◌+◌, ◌<◌, Bool, true, false, List, [], ◌∷◌, drop}
use Rattle.std.proofs.Common.{length, refl, ◌∙◌, arith}
use Rattle.std.proofs.lemmas.List.{length-set, length-replicate}
use Rattle.clock.proofs.Scripts.{applies_those}
use Rattle.clock.proofs.Timers.{counted_bits}
use Rattle.clock.specs.Laws.{IsSortedFrom}
use Rattle.platform.specs.declared.exception.TheConstants.{MAX_INTERRUPTS}
use Rattle.platform.specs.declared.script.ScriptedEvent.{ScriptedEvent}
use Rattle.platform.specs.declared.script.Signal.{Signal}
use Rattle.platform.specs.declared.script.Signal.TheVariants.{Rise, Fall, Pulse, Nmi, Poke}
use Rattle.platform.specs.Boards.{IsScriptFrom}
use Rattle.platform.specs.SystemInvariant.{IsWithinClock, HasTimerBits, IsAhead}
use Rattle.platform.specs.Time.{Time, SysTick, last_tick, with_signal, with_events, events_at, due_count}
use Rattle.platform.specs.Time.{events_after, time_after_tick, start_time}

-- what holds of time on a board with these interrupts
pub record IsTimely (interrupts : ℕ) (t : Time) : Type 0 where
  pub clock : IsWithinClock t
  pub timer : HasTimerBits t.systick
  pub ahead : IsAhead interrupts t

-- ---- the script

sorted : (interrupts tick : ℕ) (script : List ScriptedEvent) → IsScriptFrom interrupts tick script
    → IsSortedFrom tick script
sorted interrupts tick [] s = tt
sorted interrupts tick (e ∷ events) s = (s.0, sorted interrupts e.at events s.3)

-- a script without its first events is one, from each tick on from which it is sorted
dropped : (interrupts before tick n : ℕ) (script : List ScriptedEvent) → IsScriptFrom interrupts before script →
    IsSortedFrom tick (drop n script) → IsScriptFrom interrupts tick (drop n script)
dropped interrupts before tick zero [] s order = tt
dropped interrupts before tick (suc n) [] s order = tt
dropped interrupts before tick zero (e ∷ events) s order = (order.0, s.1, s.2, s.3)
dropped interrupts before tick (suc n) (e ∷ events) s order = dropped interrupts e.at tick n events s.3 order

left : (interrupts tick : ℕ) (script : List ScriptedEvent) → IsScriptFrom interrupts tick script →
    IsScriptFrom interrupts (tick + 1) (events_after tick script)
left interrupts tick script s =
    dropped interrupts tick (tick + 1) (due_count tick script) script s
    (applies_those tick script (sorted interrupts tick script s)).1

-- ---- the levels

signal_length : (high : List Bool) (what : Signal) → length (with_signal high what) ≡ length high
signal_length high (Rise line) = length-set high line true
signal_length high (Fall line) = length-set high line false
signal_length high (Pulse line) = refl
signal_length high Nmi = refl
signal_length high (Poke p) = refl

pub signal_timely : (interrupts : ℕ) (t : Time) (what : Signal) → IsTimely interrupts t
    → IsTimely interrupts (record t { high = with_signal t.high what })
signal_timely interrupts t what h = record {
  clock = h.clock;
  timer = h.timer;
  ahead = record { script = h.ahead.script; high = signal_length t.high what ∙ h.ahead.high };
}

events_length : (high : List Bool) (events : List ScriptedEvent) → length (with_events high events) ≡ length high
events_length high [] = refl
events_length high (e ∷ events) = events_length (with_signal high e.what) events ∙ signal_length high e.what

-- ---- a tick, and the start

pub with_timer : (interrupts : ℕ) (t : Time) (timer : SysTick) → HasTimerBits timer → IsTimely interrupts t →
    IsTimely interrupts (record t { systick = timer })
with_timer interrupts t timer bits h = record {
  clock = h.clock;
  timer = bits;
  ahead = record { script = h.ahead.script; high = h.ahead.high };
}

pub tick_timely : (interrupts : ℕ) (t : Time) → t.ticks < last_tick → IsTimely interrupts t
    → IsTimely interrupts (time_after_tick t)
unfolding time_after_tick
tick_timely interrupts t early h = record {
  clock = omega arith;
  timer = counted_bits t.systick h.timer;
  ahead = record {
    script = left interrupts (t.ticks + 1) t.script h.ahead.script;
    high = events_length t.high (events_at (t.ticks + 1) t.script) ∙ h.ahead.high;
  };
}

pub timely_at_start : (interrupts : ℕ) (script : List ScriptedEvent) → IsScriptFrom interrupts 1 script →
    IsTimely interrupts (start_time script)
timely_at_start interrupts script s = record {
  clock = omega arith;
  timer = record { reload = omega arith; current = omega arith };
  ahead = record { script = s; high = length-replicate MAX_INTERRUPTS false };
}
