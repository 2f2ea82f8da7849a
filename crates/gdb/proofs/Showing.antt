-- Text that is put piece by piece.
use Rattle.std.proofs.Common.{◌≡◌, ℕ, ◌+◌, ◌<◌, List, [], ◌∷◌, ◌++◌, length, take, drop, get_or, Option}
use Rattle.std.proofs.Common.{Result, Ok, Err, refl, sym, ◌∙◌, ap, subst, append_assoc}
use Rattle.std.proofs.KnownBytes.{Appends-nil, Appends-trans}
use Rattle.std.proofs.lemmas.List.{append-nil, take-append-drop, take_more}
use Rattle.std.specs.Io.KnownBytes.{Appends}
use Rattle.gdb.specs.Consoles.{Console, Shown, ShownInPart, ShowsText, console_after, console_with, sent_by, sent_with}
use Rattle.output.specs.Output.{IsCutShort, Writing, WritesAll}
use Rattle.platform.specs.declared.event.Event.{Event}

-- ---- one text after another

pub after-append : (c : Console) (xs ys : List ℕ)
    → console_after c (xs ++ ys) ≡ console_after (console_after c xs) ys
unfolding console_after
after-append c [] ys = refl
after-append c (x ∷ xs) ys = after-append (console_with c x) xs ys

pub sent-append : (c : Console) (xs ys : List ℕ)
    → sent_by c (xs ++ ys) ≡ sent_by c xs ++ sent_by (console_after c xs) ys
unfolding sent_by console_after
sent-append c [] ys = refl
sent-append c (x ∷ xs) ys =
    ap (λ (bs : List ℕ). sent_with c x ++ bs) (sent-append (console_with c x) xs ys)
    ∙ sym (append_assoc (sent_with c x) (sent_by (console_with c x) xs)
    (sent_by (console_after (console_with c x) xs) ys))

sent_one : (c : Console) (x : ℕ) → sent_by c (x ∷ []) ≡ sent_with c x
unfolding sent_by
sent_one c x = append-nil (sent_with c x)

after_one : (c : Console) (x : ℕ) → console_after c (x ∷ []) ≡ console_with c x
unfolding console_after
after_one c x = refl

-- a text that was cut short is cut short before a longer one
pub cut_before : (old new : Option (List ℕ)) (text more : List ℕ) → IsCutShort old new text
    → IsCutShort old new (text ++ more)
cut_before old new text more cut = record {
  front = cut.front;
  byte = cut.byte;
  later = cut.later ++ more;
  whole = rw cut.whole (append_assoc cut.front (cut.byte ∷ cut.later) more);
  went = cut.went;
}

-- and after another one
pub cut_later : (old mid new : Option (List ℕ)) (text more : List ℕ) → Appends old mid text → IsCutShort mid new more
    → IsCutShort old new (text ++ more)
cut_later old mid new text more went cut = record {
  front = text ++ cut.front;
  byte = cut.byte;
  later = cut.later;
  whole = rw cut.whole (sym (append_assoc text cut.front (cut.byte ∷ cut.later)));
  went = Appends-trans old mid new text cut.front went cut.went;
}

-- ---- what was put

pub shown_none : (a : Writing) (c : Console) → Shown a a c c []
unfolding sent_by console_after
shown_none a c = ((Appends-nil a.written, refl), refl)

-- more text after some
pub shown_on : (a b e : Writing) (c d f : Console) (xs ys : List ℕ) → Shown a b c d xs → Shown b e d f ys
    → Shown a e c f (xs ++ ys)
shown_on a b e c d f xs ys first then = (
  (
    rw (sent-append c xs ys) (Appends-trans a.written b.written e.written (sent_by c xs)
        (sent_by (console_after c xs) ys) first.0.0
        (subst (λ (k : Console). Appends b.written e.written (sent_by k ys)) first.1 then.0.0)),
    then.0.1 ∙ first.0.1,
  ),
  then.1 ∙ (ap (λ (k : Console). console_after k ys) first.1 ∙ sym (after-append c xs ys)),
)

-- it was cut
pub part_on : (a b e : Writing) (c d : Console) (xs ys : List ℕ) → Shown a b c d xs → ShownInPart b e d ys
    → ShownInPart a e c (xs ++ ys)
part_on a b e c d xs ys first then = (
  rw (sent-append c xs ys) (cut_later a.written b.written e.written (sent_by c xs)
      (sent_by (console_after c xs) ys) first.0.0
      (subst (λ (k : Console). IsCutShort b.written e.written (sent_by k ys)) first.1 then.0)),
  then.1 ∙ ap (λ (n : ℕ). n + 1) first.0.1,
)

-- a text that was cut, with more that would have come
pub part_before : (a b : Writing) (c : Console) (xs ys : List ℕ) → ShownInPart a b c xs → ShownInPart a b c (xs ++ ys)
part_before a b c xs ys cut = (
  rw (sent-append c xs ys) (cut_before a.written b.written (sent_by c xs) (sent_by (console_after c xs) ys) cut.0),
  cut.1,
)

-- ---- a loop over the bytes of a text

pub bytes_on : (a b e : Writing) (c d f : Console) (text : List ℕ) (i : ℕ) → i < length text
    → Shown a b c d (take i text) → WritesAll b e (sent_with d (get_or text i 0))
    → f ≡ console_with d (get_or text i 0) → Shown a e c f (take (i + 1) text)
bytes_on a b e c d f text i inside so_far put kept =
    let one : Shown b e d f (get_or text i 0 ∷ []) =
    (rw (sent_one d (get_or text i 0)) put, rw (after_one d (get_or text i 0)) kept) in
    rw (take_more text i 0 inside) (shown_on a b e c d f (take i text) (get_or text i 0 ∷ []) so_far one)

pub bytes_cut : (a b e : Writing) (c d : Console) (text : List ℕ) (i : ℕ) → i < length text
    → Shown a b c d (take i text)
    → IsCutShort b.written e.written (sent_with d (get_or text i 0)) × (e.errors ≡ b.errors + 1)
    → ShownInPart a e c text
bytes_cut a b e c d text i inside so_far put =
    let one : ShownInPart b e d (get_or text i 0 ∷ []) = rw (sent_one d (get_or text i 0)) put in
    subst (λ (bs : List ℕ). ShownInPart a e c bs) (take-append-drop (i + 1) text)
    (part_before a e c (take (i + 1) text) (drop (i + 1) text)
    (rw (take_more text i 0 inside) (part_on a b e c d (take i text) (get_or text i 0 ∷ []) so_far one)))

-- ---- texts one after another, the last of which may be cut

pub shows_on : {E : Type 0} (a b e : Writing) (c d f : Console) (xs ys : List ℕ) (result : Result (Unit {0}) E)
    → Shown a b c d xs → ShowsText b e d f ys result → ShowsText a e c f (xs ++ ys) result
shows_on a b e c d f xs ys (Ok done) first then = shown_on a b e c d f xs ys first then
shows_on a b e c d f xs ys (Err error) first then = part_on a b e c d xs ys first then

-- ---- a loop over the events of a step, each of which has a text

-- the text of some events, and of more
abbrev pub Joins : (List Event → List ℕ) → Type 0
Joins text = (xs ys : List Event) → text (xs ++ ys) ≡ text xs ++ text ys

-- the text of the events before an index, and of the one there
text_at : (text : List Event → List ℕ) (joins : Joins text) (events : List Event) (i : ℕ) (d : Event)
    → i < length events → text (take (i + 1) events) ≡ text (take i events) ++ text (get_or events i d ∷ [])
text_at text joins events i d inside =
    rw (take_more events i d inside) (joins (take i events) (get_or events i d ∷ []))

-- the text of the events up to an index, and of those after it
text_parted : (text : List Event → List ℕ) (joins : Joins text) (events : List Event) (i : ℕ)
    → text events ≡ text (take i events) ++ text (drop i events)
text_parted text joins events i =
    ap text (sym (take-append-drop i events)) ∙ joins (take i events) (drop i events)

pub events_on : (text : List Event → List ℕ) (joins : Joins text) (a b e : Writing) (c d f : Console)
    (events : List Event) (i : ℕ) (event : Event) → i < length events → Shown a b c d (text (take i events))
    → Shown b e d f (text (get_or events i event ∷ [])) → Shown a e c f (text (take (i + 1) events))
events_on text joins a b e c d f events i event inside so_far more =
    subst (λ (t : List ℕ). Shown a e c f t) (sym (text_at text joins events i event inside))
    (shown_on a b e c d f (text (take i events)) (text (get_or events i event ∷ [])) so_far more)

pub events_cut : (text : List Event → List ℕ) (joins : Joins text) (a b e : Writing) (c d : Console)
    (events : List Event) (i : ℕ) (event : Event) → i < length events → Shown a b c d (text (take i events))
    → ShownInPart b e d (text (get_or events i event ∷ [])) → ShownInPart a e c (text events)
events_cut text joins a b e c d events i event inside so_far cut =
    subst (λ (t : List ℕ). ShownInPart a e c t) (sym (text_parted text joins events (i + 1)))
    (part_before a e c (text (take (i + 1) events)) (text (drop (i + 1) events))
    (subst (λ (t : List ℕ). ShownInPart a e c t) (sym (text_at text joins events i event inside))
    (part_on a b e c d (text (take i events)) (text (get_or events i event ∷ [])) so_far cut)))
