-- The text of a step's events of the selected kinds, put event by event.
use Rattle.std.proofs.Common.{◌≡◌, ℕ, ◌+◌, ◌-◌, ◌*◌, ◌<◌, ◌≤◌, Bool, true, false, List, [], ◌∷◌, ◌++◌, length, take}
use Rattle.std.proofs.Common.{drop, Option}
use Rattle.std.proofs.Common.{Some, None, refl, sym, ap, ◌∙◌, append_assoc, length-append}
use Rattle.std.proofs.Common.{length-drop, arith, get_or}
use Rattle.std.proofs.KnownBytes.{Appends-nil, Appends-trans}
use Rattle.std.proofs.Math.Seq.{take-append_seam}
use Rattle.std.proofs.Math.Logic.{∥∥₁_elim, ∥∥₁_map}
use Rattle.std.proofs.Props.{props}
use Rattle.std.proofs.lemmas.List.{map-append, take-append-drop, take_more}
use Rattle.std.specs.Io.KnownBytes.{Appends}
use Rattle.output.specs.Emitting.{PutsUnless, WritesSoFar, emission}
use Rattle.output.specs.Output.{IsCutShort, WritesAll, Writing}
use Rattle.platform.specs.declared.event.Event.{Event}
use Rattle.trace.proofs.Selecting.{kinds-append, kinds-nil}
use Rattle.trace.specs.declared.selection.TraceSelection.{TraceSelection}
use Rattle.trace.specs.Emission.{Emission}
use Rattle.trace.specs.Selection.{kinds_text, last_printed}

-- one event more
pub one_more : {O : Type 0} (writing : O → Writing) (name : ℕ) (old new : O)
    (items : List (O × Event)) (e : Event)
    → emission writing name new (items ++ (old, e) ∷ [])
    ≡ record (emission writing name old items) {
      events =
          (emission writing name old items).events ++ e ∷ [];
    }
one_more writing name old new [] e = refl
one_more {O} writing name old new (first ∷ later) e =
    ap (λ (es : List Event). record {
      writer = name;
      written = (writing first.0).written;
      errors = (writing first.0).errors;
      events = first.1 ∷ es;
    }) (map-append (λ (entry : O × Event). entry.1) later ((old, e) ∷ []))

-- a text that was cut short is cut short before a longer one
cut_before : (old new : Option (List ℕ)) (text more : List ℕ) → IsCutShort old new text
    → IsCutShort old new (text ++ more)
cut_before old new text more cut = record {
  front = cut.front;
  byte = cut.byte;
  later = cut.later ++ more;
  whole = rw cut.whole (append_assoc cut.front (cut.byte ∷ cut.later) more);
  went = cut.went;
}

-- a text that went out, and one after it that was cut short
cut_later : (old mid new : Option (List ℕ)) (text more : List ℕ) → Appends old mid text → IsCutShort mid new more
    → IsCutShort old new (text ++ more)
cut_later old mid new text more went cut = record {
  front = text ++ cut.front;
  byte = cut.byte;
  later = cut.later;
  whole = rw cut.whole (sym (append_assoc text cut.front (cut.byte ∷ cut.later)));
  went = Appends-trans old mid new text cut.front went cut.went;
}

-- the text of one event more
text_more : (selection : TraceSelection) (e : Emission) (event : Event) (mid new : Writing) (failed after : Bool)
    → WritesSoFar selection e mid failed
    → PutsUnless failed mid new (kinds_text selection (event ∷ [])) after
    → WritesSoFar selection (record e { events = e.events ++ event ∷ [] }) new after
text_more selection e event mid new true true so_far put =
    rw (put.0, put.1) (
      rw (kinds-append selection e.events (event ∷ [])) (cut_before e.written mid.written _ _ so_far.0),
      so_far.1,
    )
text_more selection e event mid new true false so_far put = absurd put
text_more selection e event mid new false false so_far put = (
  rw (kinds-append selection e.events (event ∷ []))
      (Appends-trans e.written mid.written new.written _ _ so_far.0 put.0),
  put.1 ∙ so_far.1,
)
text_more selection e event mid new false true so_far put = (
  rw (kinds-append selection e.events (event ∷ []))
      (cut_later e.written mid.written new.written _ _ so_far.0 put.0),
  put.1
      ∙ ap (λ (n : ℕ). n + 1) so_far.1,
)

-- before the first event
pub none_yet : {O : Type 0} (selection : TraceSelection) (writing : O → Writing) (name : ℕ) (now : O)
    → WritesSoFar selection (emission writing name now []) (writing now) false
none_yet selection writing name now = (rw (kinds-nil selection) (Appends-nil (writing now).written), refl)

-- What a struct keeps of such facts is only that they hold. What was put can be found again: it is what the known bytes
-- have grown by.

none_proves : (x y : ⊥) → x ≡ y
none_proves x y = absurd x

went_found : (old new : Option (List ℕ)) (text : List ℕ) → ∥ Appends old new text ∥₁ → Appends old new text
went_found None new text went = tt
went_found (Some xs) None text went = absurd (∥∥₁_elim went none_proves (λ w. w))
went_found (Some xs) (Some ys) text went = ∥∥₁_elim went (search props) (λ w. w)

no_byte : (front : List ℕ) (byte : ℕ) (later : List ℕ) → [] ≡ front ++ byte ∷ later → ⊥
no_byte [] byte later e = absurd cc
no_byte (first ∷ front) byte later e = absurd cc

cut_at : (xs ys text rest : List ℕ) (n : ℕ) → ys ≡ xs ++ take n text → rest ≡ drop n text → 0 < length rest
    → IsCutShort (Some xs) (Some ys) text
cut_at xs ys text [] n grew is some = absurd (let wrong : 0 < 0 = some in omega arith)
cut_at xs ys text (byte ∷ later) n grew is some = record {
  front = take n text;
  byte = byte;
  later = later;
  whole = rw is (sym (take-append-drop n text));
  went = grew;
}

count_of : (xs ys text : List ℕ) → (cut : IsCutShort (Some xs) (Some ys) text)
    → length ys - length xs ≡ length cut.front
count_of xs ys text cut = let e : length ys ≡ length xs + length cut.front =
    ap length cut.went ∙ length-append xs cut.front in omega (arith, e)

grew_by : (xs ys text : List ℕ) → IsCutShort (Some xs) (Some ys) text → ys ≡ xs ++ take (length ys - length xs) text
grew_by xs ys text cut =
    rw (count_of xs ys text cut, cut.whole, take-append_seam cut.front (cut.byte ∷ cut.later)) cut.went

is_left : (xs ys text : List ℕ) → IsCutShort (Some xs) (Some ys) text → 0 < length (drop (length ys - length xs) text)
is_left xs ys text cut =
    let n = count_of xs ys text cut in
    let all : length text ≡ length cut.front + length (cut.byte ∷ cut.later) =
    ap length cut.whole ∙ length-append cut.front (cut.byte ∷ cut.later) in
    rw (n, length-drop) (omega (arith, all))

cut_found : (old new : Option (List ℕ)) (text : List ℕ) → ∥ IsCutShort old new text ∥₁ → IsCutShort old new text
cut_found None new [] cut = absurd (∥∥₁_elim cut none_proves (λ c. no_byte c.front c.byte c.later c.whole))
cut_found None new (byte ∷ later) cut = record { front = []; byte = byte; later = later; whole = refl; went = tt }
cut_found (Some xs) None text cut = absurd (∥∥₁_elim cut none_proves (λ c. c.went))
cut_found (Some xs) (Some ys) text cut =
    cut_at xs ys text (drop (length ys - length xs) text) (length ys - length xs)
    (∥∥₁_elim cut (search props) (grew_by xs ys text)) refl (∥∥₁_elim cut (search props) (is_left xs ys text))

pub found : (selection : TraceSelection) (e : Emission) (now : Writing) (failed : Bool)
    → ∥ WritesSoFar selection e now failed ∥₁ → WritesSoFar selection e now failed
found selection e now false so_far = (
  went_found e.written now.written (kinds_text selection e.events) (∥∥₁_map so_far (λ w. w.0)),
  ∥∥₁_elim so_far (search props) (λ w. w.1),
)
found selection e now true so_far = (
  cut_found e.written now.written (kinds_text selection e.events) (∥∥₁_map so_far (λ w. w.0)),
  ∥∥₁_elim so_far (search props) (λ w. w.1),
)

-- what a sink has put so far
abbrev Puts : {O : Type 0} → TraceSelection → (O → Writing) → ℕ → O → List (O × Event) → Bool → Type 0
Puts selection writing name now items failed =
    ∥ WritesSoFar selection (emission writing name now items) (writing now) failed ∥₁

-- one event more, whose text was put unless an earlier one failed
pub one_text_more : {O : Type 0} (selection : TraceSelection) (writing : O → Writing) (name : ℕ) (old new : O)
    (items later : List (O × Event)) (e : Event) (failed after : Bool)
    → later ≡ items ++ (old, e) ∷ [] → Puts selection writing name old items failed
    → PutsUnless failed (writing old) (writing new) (kinds_text selection (e ∷ [])) after
    → Puts selection writing name new later after
one_text_more selection writing name old new items later e failed after is so_far put =
    rw (is, one_more writing name old new items e)
    (let before = emission writing name old items in
    ∣ text_more selection before e (writing old) (writing new) failed after
    (found selection before (writing old) failed so_far) put ∣₁)

-- the text of one event more, where none can fail
pub text_within : {O : Type 0} (selection : TraceSelection) (writing : O → Writing) (name : ℕ) (old new : O)
    (items later : List (O × Event)) (e : Event) → later ≡ items ++ (old, e) ∷ []
    → Puts selection writing name old items false
    → WritesAll (writing old) (writing new) (kinds_text selection (e ∷ []))
    → Puts selection writing name new later false
text_within selection writing name old new items later e is so_far put =
    one_text_more selection writing name old new items later e false false is so_far put

-- the last byte that was printed, after one event more
pub one_byte_more : {O : Type 0} (selection : TraceSelection) (writing : O → Writing) (name : ℕ) (old new : O)
    (items later : List (O × Event)) (e : Event) (last : Option ℕ)
    → later ≡ items ++ (old, e) ∷ []
    → last ≡ last_printed selection ((emission writing name old items).events ++ e ∷ [])
    → last ≡ last_printed selection (emission writing name new later).events
one_byte_more selection writing name old new items later e last is ends =
    rw (is, one_more writing name old new items e) ends

-- one event more takes the room of a line
pub fits_more : {O : Type 0} (writing : O → Writing) (name : ℕ) (old new : O) (items later : List (O × Event))
    (e : Event) (before after : ℕ) → later ≡ items ++ (old, e) ∷ []
    → 0xB00 ≤ before + 64 * length (emission writing name old items).events → before ≤ after + 64
    → 0xB00 ≤ after + 64 * length (emission writing name new later).events
fits_more writing name old new items later e before after is fits less =
    rw (is, one_more writing name old new items e, length-append) (omega (arith, fits, less))

-- ---- the events of a step that is over

-- the text of the events before an index, and of the one there
event_at : (selection : TraceSelection) (events : List Event) (i : ℕ) (d : Event) → i < length events
    → kinds_text selection (take (i + 1) events)
    ≡ kinds_text selection (take i events) ++ kinds_text selection (get_or events i d ∷ [])
event_at selection events i d inside =
    rw (take_more events i d inside) (kinds-append selection (take i events) (get_or events i d ∷ []))

-- the text of the events up to an index, and of those after it
parts_at : (selection : TraceSelection) (events : List Event) (i : ℕ)
    → kinds_text selection events ≡ kinds_text selection (take i events) ++ kinds_text selection (drop i events)
parts_at selection events i =
    ap (kinds_text selection) (sym (take-append-drop i events))
    ∙ kinds-append selection (take i events) (drop i events)

-- before the first of them
pub none_put : (selection : TraceSelection) (now : Writing) → WritesAll now now (kinds_text selection [])
none_put selection now = (rw (kinds-nil selection) (Appends-nil now.written), refl)

-- one of them more was put
pub put_on : (selection : TraceSelection) (old mid new : Writing) (events : List Event) (i : ℕ) (d : Event)
    → i < length events → WritesAll old mid (kinds_text selection (take i events))
    → WritesAll mid new (kinds_text selection (get_or events i d ∷ []))
    → WritesAll old new (kinds_text selection (take (i + 1) events))
put_on selection old mid new events i d inside so_far more = (
  rw (event_at selection events i d inside)
      (Appends-trans old.written mid.written new.written _ _ so_far.0 more.0),
  more.1 ∙ so_far.1,
)

-- the text of one of them was cut short
pub cut_on : (selection : TraceSelection) (old mid new : Writing) (events : List Event) (i : ℕ) (d : Event)
    → i < length events → WritesAll old mid (kinds_text selection (take i events))
    → IsCutShort mid.written new.written (kinds_text selection (get_or events i d ∷ [])) × (new.errors ≡ mid.errors + 1)
    → IsCutShort old.written new.written (kinds_text selection events) × (new.errors ≡ old.errors + 1)
cut_on selection old mid new events i d inside so_far cut = (
  rw (parts_at selection events (i + 1), event_at selection events i d inside)
      (cut_before old.written new.written _ (kinds_text selection (drop (i + 1) events))
      (cut_later old.written mid.written new.written _ _ so_far.0 cut.0)),
  cut.1 ∙ ap (λ (n : ℕ). n + 1) so_far.1,
)
