-- What a sink of events has taken.
use Rattle.std.specs.Prelude.{ℕ, List, Option}
use Rattle.platform.specs.declared.event.Event.{Event}

-- the events that a sink has taken so far; and how it was before them: the bytes that it had written, where they are
-- known, and how many of its calls had failed. `writer` is the writer that it borrows, 0 where it borrows none
pub record Emission : Type 0 where
  pub writer : ℕ
  pub written : Option (List ℕ)
  pub errors : ℕ
  pub events : List Event

-- the same sink, with these events
abbrev pub with_emitted : Emission → List Event → Emission
with_emitted e events = record e { events = events }
