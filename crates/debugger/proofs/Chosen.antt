-- The lines that settings have of a step's events, put event by event.
use Rattle.std.proofs.Common.{◌≡◌, ℕ, ◌+◌, ◌<◌, List, [], ◌∷◌, ◌++◌, length, take, drop, get_or, Option, refl, sym}
use Rattle.std.proofs.Common.{◌∙◌, ap, append_assoc}
use Rattle.std.proofs.KnownBytes.{Appends-nil, Appends-trans}
use Rattle.std.proofs.lemmas.List.{take-append-drop, take_more}
use Rattle.std.proofs.lemmas.List.Elements.{filter-append}
use Rattle.std.specs.Io.KnownBytes.{Appends}
use Rattle.debugger_commands.specs.Conditions.{has_line, written}
use Rattle.debugger_commands.specs.Settings.{Settings}
use Rattle.output.specs.Output.{IsCutShort, Writing, WritesAll}
use Rattle.platform.specs.declared.event.Event.{Event}
use Rattle.platform.specs.Events.{lines}
use Rattle.trace.proofs.Selecting.{lines-append}

-- their text
abbrev text_of : Settings → List Event → List ℕ
text_of k events = lines (written k events)

pub text-append : (k : Settings) (xs ys : List Event) → text_of k (xs ++ ys) ≡ text_of k xs ++ text_of k ys
text-append k xs ys =
    ap lines (filter-append (λ (e : Event). has_line k e.what) xs ys) ∙ lines-append (written k xs) (written k ys)

text-nil : (k : Settings) → text_of k [] ≡ []
unfolding lines
text-nil k = refl

-- a text that was cut short is cut short before a longer one
cut_before : (old new : Option (List ℕ)) (text more : List ℕ) → IsCutShort old new text
    → IsCutShort old new (text ++ more)
cut_before old new text more cut = record {
  front = cut.front;
  byte = cut.byte;
  later = cut.later ++ more;
  whole = rw cut.whole (append_assoc cut.front (cut.byte ∷ cut.later) more);
  went = cut.went;
}

-- and after another one
cut_later : (old mid new : Option (List ℕ)) (text more : List ℕ) → Appends old mid text → IsCutShort mid new more
    → IsCutShort old new (text ++ more)
cut_later old mid new text more went cut = record {
  front = text ++ cut.front;
  byte = cut.byte;
  later = cut.later;
  whole = rw cut.whole (sym (append_assoc text cut.front (cut.byte ∷ cut.later)));
  went = Appends-trans old mid new text cut.front went cut.went;
}

-- the text of the events before an index, and of the one there
event_at : (k : Settings) (events : List Event) (i : ℕ) (d : Event) → i < length events
    → text_of k (take (i + 1) events) ≡ text_of k (take i events) ++ text_of k (get_or events i d ∷ [])
event_at k events i d inside =
    rw (take_more events i d inside) (text-append k (take i events) (get_or events i d ∷ []))

-- the text of the events up to an index, and of those after it
parts_at : (k : Settings) (events : List Event) (i : ℕ)
    → text_of k events ≡ text_of k (take i events) ++ text_of k (drop i events)
parts_at k events i = ap (text_of k) (sym (take-append-drop i events)) ∙ text-append k (take i events) (drop i events)

-- before the first of them
pub none_put : (k : Settings) (now : Writing) → WritesAll now now (lines (written k []))
none_put k now = (rw (text-nil k) (Appends-nil now.written), refl)

-- one of them more was put
pub put_on : (k : Settings) (old mid new : Writing) (events : List Event) (i : ℕ) (d : Event) → i < length events
    → WritesAll old mid (lines (written k (take i events)))
    → WritesAll mid new (lines (written k (get_or events i d ∷ [])))
    → WritesAll old new (lines (written k (take (i + 1) events)))
put_on k old mid new events i d inside so_far more = (
  rw (event_at k events i d inside) (Appends-trans old.written mid.written new.written _ _ so_far.0 more.0),
  more.1 ∙ so_far.1,
)

-- the text of one of them was cut short
pub cut_in : (k : Settings) (old mid new : Writing) (events : List Event) (i : ℕ) (d : Event) → i < length events
    → WritesAll old mid (lines (written k (take i events)))
    → IsCutShort mid.written new.written (lines (written k (get_or events i d ∷ []))) × (new.errors ≡ mid.errors + 1)
    → IsCutShort old.written new.written (lines (written k events)) × (new.errors ≡ old.errors + 1)
cut_in k old mid new events i d inside so_far cut = (
  rw (parts_at k events (i + 1), event_at k events i d inside)
      (cut_before old.written new.written _ (text_of k (drop (i + 1) events))
      (cut_later old.written mid.written new.written _ _ so_far.0 cut.0)),
  cut.1 ∙ ap (λ (n : ℕ). n + 1) so_far.1,
)
