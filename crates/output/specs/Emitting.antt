-- What a contract sees of a writer to which the text of a step's events goes, event by event.
use Rattle.std.specs.Prelude.{◌≡◌, ℕ, ◌+◌, Bool, true, false, List, [], ◌∷◌, Result, Ok, Err, map}
use Rattle.std.specs.Io.KnownBytes.{Appends}
use Rattle.output.specs.Output.{IsCutShort, Writing}
use Rattle.platform.specs.declared.event.Event.{Event}
use Rattle.trace.specs.declared.selection.TraceSelection.{TraceSelection}
use Rattle.trace.specs.Emission.{Emission}
use Rattle.trace.specs.Selection.{kinds_text}

-- from pairs of an event and the writer before it: the writer before the first event, and the events
abbrev pub emission : {O : Type 0} → (O → Writing) → ℕ → O → List (O × Event) → Emission
emission writing name now [] =
    record { writer = name; written = (writing now).written; errors = (writing now).errors; events = [] }
emission writing name now (first ∷ later) =
    record {
      writer = name;
      written = (writing first.0).written;
      errors = (writing first.0).errors;
      events = first.1 ∷ map (λ entry. entry.1) later;
    }

-- no event has come yet
abbrev pub BeforeStep : {O : Type 0} → (O → Writing) → ℕ → O → List (O × Event) → Type 0
BeforeStep writing name now items = emission writing name now items ≡ emission writing name now []

-- the text of the events of the selected kinds so far: it went out and no call failed, or a prefix of it did and one
-- call failed
abbrev pub WritesSoFar : TraceSelection → Emission → Writing → Bool → Type 0
WritesSoFar selection e now false =
    Appends e.written now.written (kinds_text selection e.events) × (now.errors ≡ e.errors)
WritesSoFar selection e now true =
    IsCutShort e.written now.written (kinds_text selection e.events) × (now.errors ≡ e.errors + 1)

-- the text of a step's events of the selected kinds was put: a call failed where the result is an error
abbrev pub PutsText : {E : Type 0} → TraceSelection → Emission → Writing → Result (Unit {0}) E → Type 0
PutsText selection e now (Ok done) = WritesSoFar selection e now false
PutsText selection e now (Err error) = WritesSoFar selection e now true

-- a text after others: it isn't begun where one of those failed; otherwise it went out, or it failed and a prefix of it
-- did
abbrev pub PutsUnless : Bool → Writing → Writing → List ℕ → Bool → Type 0
PutsUnless true old new text true = (new.written ≡ old.written) × (new.errors ≡ old.errors)
PutsUnless true old new text false = ⊥
PutsUnless false old new text false = Appends old.written new.written text × (new.errors ≡ old.errors)
PutsUnless false old new text true = IsCutShort old.written new.written text × (new.errors ≡ old.errors + 1)
