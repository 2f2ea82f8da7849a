-- Sorted scripts.
use Rattle.std.specs.Prelude.{ℕ, ◌+◌, ◌<◌, ◌≡◌, ◌==◌, List, [], ◌∷◌, refl}
use Rattle.std.specs.List.{filter}
use Rattle.std.proofs.Common.{arith, subst, sym, inl, inr}
use Rattle.std.proofs.Math.Nat.{eq-or-lt_of_le}
use Rattle.std.proofs.lemmas.Grind.{common_steps}
use Rattle.clock.specs.Laws.{IsSortedFrom, AppliesThoseOfTheTick}
use Rattle.platform.specs.declared.script.ScriptedEvent.{ScriptedEvent}
use Rattle.platform.specs.Time.{events_at, events_after}

-- the events that name a tick
abbrev named : ℕ → List ScriptedEvent → List ScriptedEvent
named tick script = filter (λ e. e.at == tick) script

-- none of them stands in a script that begins later
none : (tick from : ℕ) (script : List ScriptedEvent) → tick < from → IsSortedFrom from script → named tick script ≡ []
none tick from [] h s = refl
none tick from (e ∷ events) h s =
    let rest : named tick events ≡ [] = none tick e.at events (omega arith) s.1 in
    grind (arith, common_steps)

-- an event of the tick, and a later one
those_now : (tick : ℕ) (e : ScriptedEvent) (events : List ScriptedEvent) → tick ≡ e.at →
    events_at tick events ≡ named tick events → events_at tick (e ∷ events) ≡ named tick (e ∷ events)
those_now tick e events q rest = grind (arith, common_steps)

those_later : (tick : ℕ) (e : ScriptedEvent) (events : List ScriptedEvent) → tick < e.at →
    named tick events ≡ [] → events_at tick (e ∷ events) ≡ named tick (e ∷ events)
those_later tick e events h rest = grind (arith, common_steps)

those : (tick : ℕ) (script : List ScriptedEvent) → IsSortedFrom tick script → events_at tick script ≡ named tick script
those tick [] s = refl
those tick (e ∷ events) s =
    elim (eq-or-lt_of_le s.0) [
      | inl q ↦ those_now tick e events q (those tick events (subst (λ a. IsSortedFrom a events) (sym q) s.1))
      | inr h ↦ those_later tick e events h (none tick e.at events h s.1)
    ]

left_now : (tick : ℕ) (e : ScriptedEvent) (events : List ScriptedEvent) → tick ≡ e.at →
    events_after tick (e ∷ events) ≡ events_after tick events
left_now tick e events q = grind (arith, common_steps)

left_later : (tick : ℕ) (e : ScriptedEvent) (events : List ScriptedEvent) → tick < e.at →
    events_after tick (e ∷ events) ≡ e ∷ events
left_later tick e events h = grind (arith, common_steps)

left : (tick : ℕ) (script : List ScriptedEvent) → IsSortedFrom tick script
    → IsSortedFrom (tick + 1) (events_after tick script)
left tick [] s = tt
left tick (e ∷ events) s =
    elim (eq-or-lt_of_le s.0) [
      | inl q ↦ rw (left_now tick e events q) (left tick events (subst (λ a. IsSortedFrom a events) (sym q) s.1))
      | inr h ↦ rw (left_later tick e events h) (omega arith, s.1)
    ]

pub applies_those : (tick : ℕ) (script : List ScriptedEvent) → AppliesThoseOfTheTick tick script
applies_those tick script s = (those tick script s, left tick script s)
