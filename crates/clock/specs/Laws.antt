-- What the laws of time say.
use Rattle.std.specs.Prelude.{ℕ, zero, suc, ◌+◌, ◌-◌, ◌<◌, ◌≤◌, ◌≡◌, ◌⊎◌, true, false, ◌==◌, List, [], ◌∷◌}
use Rattle.std.specs.List.{filter}
use Rattle.platform.specs.declared.script.ScriptedEvent.{ScriptedEvent}
use Rattle.platform.specs.Time.{Time, SysTick, time_after_tick, tick_pends, passed, counted, reaches_zero, due_of}
use Rattle.platform.specs.Time.{due_count, events_at, events_after, last_tick}

-- a tick before what is due changes the clock and the counter alone and pends nothing, and what is due stays so
abbrev pub QuietBeforeDue : Time → Type 0
QuietBeforeDue t =
    t.ticks + 1 < due_of t →
    (time_after_tick t ≡ passed t) × ((n : ℕ) → tick_pends t n ≡ false) × (due_of (passed t) ≡ due_of t)

-- in the tick that is due SysTick goes from 1 to 0, or an event applies
abbrev pub HappensWhenDue : Time → Type 0
HappensWhenDue t =
    t.ticks + 1 ≡ due_of t → t.ticks < last_tick →
    (reaches_zero t.systick ≡ true) ⊎ (0 < due_count (t.ticks + 1) t.script)

-- no event is before this tick, nor before the one that precedes it
abbrev pub IsSortedFrom : ℕ → List ScriptedEvent → Type 0
IsSortedFrom tick [] = Unit {0}
IsSortedFrom tick (e ∷ events) = (tick ≤ e.at) × IsSortedFrom e.at events

-- of a sorted script with no event in the past, a tick applies the events that name it and leaves the later ones
abbrev pub AppliesThoseOfTheTick : ℕ → List ScriptedEvent → Type 0
AppliesThoseOfTheTick tick script =
    IsSortedFrom tick script →
    (events_at tick script ≡ filter (λ e. e.at == tick) script) × IsSortedFrom (tick + 1) (events_after tick script)

-- SysTick after a number of counts
abbrev pub counts : ℕ → SysTick → SysTick
counts zero t = t
counts (suc k) t = counted (counts k t)

-- from 0 the counter takes RVR and one more counts to come back to 0, and in between it falls from RVR by one a count
abbrev pub HasThePeriod : SysTick → Type 0
HasThePeriod t =
    t.enable ≡ true → t.current ≡ 0 →
    (k : ℕ) → k ≤ t.reload → (counts (k + 1) t).current ≡ t.reload - k
