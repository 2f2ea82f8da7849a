-- The text of selected events: of one list after another, and of one event.
use Rattle.std.proofs.Common.{◌≡◌, ℕ, Bool, true, false, List, [], ◌∷◌, ◌++◌, Option, Some, None, refl, sym, ap, ◌∙◌}
use Rattle.std.proofs.Common.{append_assoc, cond, if◌then◌else◌, zero, suc, ◌&&◌}
use Rattle.std.proofs.lemmas.List.{append-nil}
use Rattle.std.proofs.lemmas.List.Elements.{filter-append, filter_map-append}
use Rattle.std.specs.List.{cons_option, last_or}
use Rattle.std.specs.Option.{option_or}
use Rattle.platform.specs.declared.event.Event.{Event}
use Rattle.platform.specs.declared.event.EventKind.{EventKind}
use Rattle.platform.specs.Events.{byte_of}
use Rattle.reference.specs.Run.{after, events_of, trace}
use Rattle.reference.specs.State.{State}
use Rattle.reference.specs.Step.{step}
use Rattle.platform.specs.Events.{line, lines}
use Rattle.trace.specs.declared.selection.TraceSelection.{TraceSelection}
use Rattle.trace.specs.declared.selection.TraceSelection.TheVariants as which
use Rattle.trace.specs.Selection.{has_faulty_steps, has_refusal_or_fault, kinds_text, last_printed}
use Rattle.trace.specs.Selection.{of_kinds}
use Rattle.trace.specs.Selection.{printed, selected_text, selected_trace, selects, steps_text, text_as, writes_bytes}

-- the lines of more events follow those of the first
pub lines-append : (xs ys : List Event) → lines (xs ++ ys) ≡ lines xs ++ lines ys
unfolding lines
lines-append [] ys = refl
lines-append (x ∷ xs) ys = rw (lines-append xs ys, append_assoc) refl

-- one event's line
pub line_alone : (e : Event) → lines (e ∷ []) ≡ line e
unfolding lines
line_alone e = append-nil (line e)

text_as-append : (selection : TraceSelection) (xs ys : List Event)
    → text_as selection (xs ++ ys) ≡ text_as selection xs ++ text_as selection ys
text_as-append which.All xs ys = lines-append xs ys
text_as-append which.Refused xs ys = lines-append xs ys
text_as-append which.Faults xs ys = lines-append xs ys
text_as-append which.Exceptions xs ys = lines-append xs ys
text_as-append which.Console xs ys = filter_map-append (λ (e : Event). byte_of e.what) xs ys
text_as-append which.Nothing xs ys = lines-append xs ys

-- the text of more events of these kinds follows that of the first
pub kinds-append : (selection : TraceSelection) (xs ys : List Event)
    → kinds_text selection (xs ++ ys) ≡ kinds_text selection xs ++ kinds_text selection ys
kinds-append selection xs ys =
    ap (text_as selection) (filter-append (λ (e : Event). selects selection e.what) xs ys)
    ∙ text_as-append selection (of_kinds selection xs) (of_kinds selection ys)

-- of no events there is no text
pub kinds-nil : (selection : TraceSelection) → kinds_text selection [] ≡ []
unfolding lines
kinds-nil which.All = refl
kinds-nil which.Refused = refl
kinds-nil which.Faults = refl
kinds-nil which.Exceptions = refl
kinds-nil which.Console = refl
kinds-nil which.Nothing = refl

-- where a selection has no faulty steps whole, the text of a step is that of its kinds
pub by_kinds : (selection : TraceSelection) (events : List Event) → has_faulty_steps selection ≡ false
    → selected_text selection events ≡ kinds_text selection events
by_kinds selection events other =
    ap
    (λ (b : Bool). text_as selection (if b && has_refusal_or_fault events then events else of_kinds selection events))
    other

-- of no events nothing is selected
pub selected-nil : (selection : TraceSelection) → selected_text selection [] ≡ []
unfolding lines
selected-nil which.All = refl
selected-nil which.Refused = refl
selected-nil which.Faults = refl
selected-nil which.Exceptions = refl
selected-nil which.Console = refl
selected-nil which.Nothing = refl

-- no events print no byte
pub last-nil : (selection : TraceSelection) → None ≡ last_printed selection []
last-nil which.All = refl
last-nil which.Refused = refl
last-nil which.Faults = refl
last-nil which.Exceptions = refl
last-nil which.Console = refl
last-nil which.Nothing = refl

-- the last item of one list after another
last_or-append : (o : Option ℕ) (xs ys : List ℕ) → last_or o (xs ++ ys) ≡ last_or (last_or o xs) ys
last_or-append o [] ys = refl
last_or-append o (x ∷ xs) ys = last_or-append (Some x) xs ys

is_there : (o : Option ℕ) (x : ℕ) (xs : List ℕ) → option_or (last_or (Some x) xs) o ≡ last_or (Some x) xs
is_there o x [] = refl
is_there o x (y ∷ ys) = is_there o y ys

last_or-join : (o : Option ℕ) (xs : List ℕ) → last_or o xs ≡ option_or (last_or None xs) o
last_or-join o [] = refl
last_or-join o (x ∷ xs) = sym (is_there o x xs)

-- the last byte that was printed by events and later ones
pub last_joined : (events more : List Event) → last_printed which.Console (events ++ more)
    ≡ option_or (last_printed which.Console more) (last_printed which.Console events)
last_joined events more =
    ap (last_or None) (kinds-append which.Console events more)
    ∙ last_or-append None (kinds_text which.Console events) (kinds_text which.Console more)
    ∙ last_or-join (last_printed which.Console events) (kinds_text which.Console more)

-- the last byte that was printed by an event alone
last_by : (tick : ℕ) (what : EventKind) (o : Option ℕ) → byte_of what ≡ o
    → last_printed which.Console (record { tick = tick; what = what } ∷ []) ≡ o
last_by tick what None is = rw is refl
last_by tick what (Some byte) is = rw (is, is) refl

-- the last byte that was printed by events and one more
pub last_on : (events : List Event) (e : Event) → last_printed which.Console (events ++ e ∷ [])
    ≡ option_or (byte_of e.what) (last_printed which.Console events)
last_on events e =
    last_joined events (e ∷ [])
    ∙ ap (λ (o : Option ℕ). option_or o (last_printed which.Console events))
    (last_by e.tick e.what (byte_of e.what) refl)

-- all events are of the kinds that `All` has
all_of_kinds : (events : List Event) → of_kinds which.All events ≡ events
all_of_kinds [] = refl
all_of_kinds (e ∷ es) = ap (λ (rest : List Event). e ∷ rest) (all_of_kinds es)

-- the text of all events is their lines
pub all_lines : (events : List Event) → kinds_text which.All events ≡ lines events
all_lines events = ap lines (all_of_kinds events)

-- the text of a step that a selection has whole
pub whole_step : (selection : TraceSelection) (events : List Event) → has_faulty_steps selection ≡ true
    → has_refusal_or_fault events ≡ true → kinds_text which.All events ≡ selected_text selection events
whole_step which.All events has refused = absurd cc
whole_step which.Refused events has refused = absurd cc
whole_step which.Faults events has refused =
    all_lines events
    ∙ sym (ap (λ (b : Bool). lines (if b then events else of_kinds which.Faults events)) refused)
whole_step which.Exceptions events has refused = absurd cc
whole_step which.Console events has refused = absurd cc
whole_step which.Nothing events has refused = absurd cc

-- the text of another step
pub other_step : (selection : TraceSelection) (events : List Event)
    → (has_faulty_steps selection && has_refusal_or_fault events) ≡ false
    → kinds_text selection events ≡ selected_text selection events
other_step selection events other =
    sym (ap (λ (b : Bool). text_as selection (if b then events else of_kinds selection events)) other)

-- the text of steps one by one is that of all their events, where texts follow one another
pub steps_joined : (text : List Event → List ℕ) → text [] ≡ []
    → ((xs ys : List Event) → text (xs ++ ys) ≡ text xs ++ text ys)
    → (n : ℕ) (s : State) → steps_text text n s ≡ text (events_of n s)
unfolding steps_text events_of
steps_joined text none more zero s = sym none
steps_joined text none more (suc n) s =
    ap (λ (first : List ℕ). first ++ text (step (after n s)).events) (steps_joined text none more n s)
    ∙ sym (more (events_of n s) (step (after n s)).events)

-- the text of a run with all events is its trace
pub all_traced : (n : ℕ) (s : State) → selected_trace which.All n s ≡ trace n s
unfolding selected_trace trace
all_traced n s =
    rw (
      steps_joined (kinds_text which.All) (kinds-nil which.All) (kinds-append which.All) n s,
      all_lines
          (events_of n s),
    )
    refl

-- the text of one event of another kind
pub not_selected : (selection : TraceSelection) (e : Event) → selects selection e.what ≡ false
    → kinds_text selection (e ∷ []) ≡ []
not_selected selection e missing =
    ap (λ (b : Bool). text_as selection (cond b (e ∷ []) [])) missing ∙ kinds-nil selection

-- the line of one event of a kind that is selected
selected_alone : (selection : TraceSelection) (e : Event) → selects selection e.what ≡ true
    → kinds_text selection (e ∷ []) ≡ text_as selection (e ∷ [])
selected_alone selection e chosen = ap (λ (b : Bool). text_as selection (cond b (e ∷ []) [])) chosen

pub line_selected : (selection : TraceSelection) (e : Event) → selects selection e.what ≡ true
    → writes_bytes selection ≡ false → kinds_text selection (e ∷ []) ≡ line e
line_selected selection e chosen lined =
    selected_alone selection e chosen
    ∙ ap (λ (b : Bool). if b then printed (e ∷ []) else lines (e ∷ [])) lined ∙ line_alone e

-- the byte of one event, where bytes are written
pub byte_selected : (selection : TraceSelection) (e : Event) (byte : Option ℕ) → selects selection e.what ≡ true
    → writes_bytes selection ≡ true → byte_of e.what ≡ byte → kinds_text selection (e ∷ []) ≡ cons_option byte []
byte_selected selection e byte chosen bare is =
    selected_alone selection e chosen
    ∙ ap (λ (b : Bool). if b then printed (e ∷ []) else lines (e ∷ [])) bare
    ∙ ap (λ (o : Option ℕ). cons_option o []) is
