-- Searches in the past, step by step and mark by mark.
use Rattle.std.proofs.Common.{◌≡◌, ◌∙◌, ◌+◌, ◌-◌, ◌<◌, ◌≤◌, ◌||◌, ℕ, zero, suc, Bool, if◌then◌else◌, List, [], ◌∷◌}
use Rattle.std.proofs.Common.{Option, Some, None, add-one, ap, arith, drop, false, is_some, length, nat_le, nat_lt}
use Rattle.std.proofs.Common.{refl}
use Rattle.std.proofs.Common.{slice_index_or, sym, true}
use Rattle.std.proofs.lemmas.Bool.{lt-ltb}
use Rattle.std.proofs.lemmas.Bool.Decides.{nat_tests}
use Rattle.std.proofs.Math.Seq.{drop-cons, drop-length}
use Rattle.gdb.specs.declared.searches.FoundPlace.{FoundPlace}
use Rattle.gdb.specs.declared.searches.SearchScope.{SearchScope}
use Rattle.gdb.specs.declared.slices.Points.{Points}
use Rattle.gdb.specs.Searches.{Place, before_mark, begins, found_from, found_if, found_or, last_found, mark_found}
use Rattle.gdb.specs.Searches.{place_back, place_of, place_or, reason_after_steps, reason_there}
use Rattle.gdb_past.specs.Places.{Past, tick_of}
use Rattle.gdb_texts.specs.declared.settings.Settings.{Settings}
use Rattle.gdb_texts.specs.declared.stops.StopReason.{StopReason}
use Rattle.gdb_texts.specs.declared.stops.StopReason.TheVariants.{PastBegins}
use Rattle.machine.specs.MachineModel.{MachineModel}
use Rattle.reference.specs.Run.{after}
use Rattle.reference.specs.State.{State}

-- one more step
pub one_more : (q : SearchScope) (points : Points) (k : Settings) (m s : State) (low n tick steps : ℕ)
    (why : Option StopReason) (found : Option FoundPlace)
    → tick ≡ tick_of m + suc (low + n) → steps ≡ suc (low + n) → s ≡ after (low + n) m
    → why ≡ reason_there q.way points k (nat_lt tick q.now) (q.continues || nat_lt tick q.end) s
    → found ≡ last_found q points k m low n
    → found_if steps why found ≡ last_found q points k m low (n + 1)
unfolding last_found
one_more q points k m s low n tick steps why found at is here says so_far =
    rw (so_far, says, here, at, is, add-one) refl

-- ---- part by part

-- the state of the machine this far after a mark
pub here_after : (past now : Past) (number from : ℕ) (m : State) (old new : MachineModel) → past ≡ now
    → new ≡ record old { state = after from (slice_index_or past.marks number m) }
    → new.state ≡ after from (slice_index_or now.marks number m)
here_after past now number from m old new same is =
    ap (λ (k : MachineModel). k.state) is
    ∙ ap (λ (p : Past). after from (slice_index_or p.marks number m)) same

found_if_or : (steps : ℕ) (why : Option StopReason) (earlier first : Option FoundPlace)
    → found_if steps why (found_or earlier first) ≡ found_or (found_if steps why earlier) first
found_if_or steps None earlier first = refl
found_if_or steps (Some r) earlier first = refl

-- the places of a part, and those before it
two_parts : (q : SearchScope) (points : Points) (k : Settings) (m : State) (low n later : ℕ)
    → last_found q points k m low (n + later)
    ≡ found_or (last_found q points k m (low + n) later) (last_found q points k m low n)
unfolding last_found
two_parts q points k m low n zero = ap (λ i. last_found q points k m low i) (let e : n + 0 ≡ n = omega arith in e)
two_parts q points k m low n (suc later) =
    let whole : n + suc later ≡ suc (n + later) = omega arith in
    let there : low + (n + later) ≡ low + n + later = omega arith in
    ap (λ i. last_found q points k m low i) whole
    ∙ (ap (λ (f : Option FoundPlace). found_if (suc (low + (n + later)))
    (reason_after_steps q points k m (low + (n + later)))
    f) (two_parts q points k m low n later)
    ∙ (ap (λ i. found_if (suc i) (reason_after_steps q points k m i)
    (found_or (last_found q points k m (low + n) later) (last_found q points k m low n))) there
    ∙ found_if_or (suc (low + n + later)) (reason_after_steps q points k m (low + n + later))
    (last_found q points k m (low + n) later) (last_found q points k m low n)))

in_parts : (q : SearchScope) (points : Points) (k : Settings) (m : State) (low from end : ℕ) → low ≤ from → from ≤ end
    → last_found q points k m low (end - low)
    ≡ found_or (last_found q points k m from (end - from)) (last_found q points k m low (from - low))
in_parts q points k m low from end first second =
    let whole : end - low ≡ from - low + (end - from) = omega (arith, first, second) in
    let there : low + (from - low) ≡ from = omega (arith, first) in
    ap (λ i. last_found q points k m low i) whole
    ∙ (two_parts q points k m low (from - low) (end - from)
    ∙ ap (λ i. found_or (last_found q points k m i (end - from)) (last_found q points k m low (from - low))) there)

or_found : (o earlier : Option FoundPlace) → is_some o ≡ true → found_or o earlier ≡ o
or_found None earlier has = absurd (let wrong : false ≡ true = has in cc)
or_found (Some f) earlier has = refl

or_earlier : (o earlier : Option FoundPlace) → is_some o ≡ false → found_or o earlier ≡ earlier
or_earlier None earlier has = refl
or_earlier (Some f) earlier has = absurd (let wrong : true ≡ false = has in cc)

or_none : (o : Option FoundPlace) → found_or o None ≡ o
or_none None = refl
or_none (Some f) = refl

-- a place in the last part
pub found_in_part : (q : SearchScope) (points : Points) (k : Settings) (m : State) (low from end : ℕ)
    (o all : Option FoundPlace)
    → low ≤ from → from ≤ end → o ≡ last_found q points k m from (end - from) → is_some o ≡ true
    → last_found q points k m low (end - low) ≡ all → o ≡ all
found_in_part q points k m low from end o all first second is has so_far =
    sym (or_found o (last_found q points k m low (from - low)) has)
    ∙ (ap (λ (f : Option FoundPlace). found_or f (last_found q points k m low (from - low))) is
    ∙ (sym (in_parts q points k m low from end first second) ∙ so_far))

-- none, so that those before it are left
pub none_in_part : (q : SearchScope) (points : Points) (k : Settings) (m : State) (low from end : ℕ)
    (o all : Option FoundPlace)
    → low ≤ from → from ≤ end → o ≡ last_found q points k m from (end - from) → is_some o ≡ false
    → last_found q points k m low (end - low) ≡ all → last_found q points k m low (from - low) ≡ all
none_in_part q points k m low from end o all first second is has so_far =
    sym (or_earlier o (last_found q points k m low (from - low)) has)
    ∙ (ap (λ (f : Option FoundPlace). found_or f (last_found q points k m low (from - low))) is
    ∙ (sym (in_parts q points k m low from end first second) ∙ so_far))

-- no part is left
pub no_part : (q : SearchScope) (points : Points) (k : Settings) (m : State) (low end : ℕ) (all : Option FoundPlace)
    → end ≤ low → last_found q points k m low (end - low) ≡ all → None ≡ all
unfolding last_found
no_part q points k m low end all over so_far =
    let none : end - low ≡ 0 = omega (arith, over) in
    sym (ap (λ i. last_found q points k m low i) none) ∙ so_far

-- ---- a mark, and the places after it

-- from a tick to the search's end, by steps after the mark
pub after_tick : (q : SearchScope) (points : Points) (k : Settings) (m : State) (low tick skipped count : ℕ)
    (o : Option FoundPlace)
    → skipped ≡ low - tick → count ≡ q.end - tick → o ≡ last_found q points k m skipped (count - skipped)
    → o ≡ last_found q points k m (low - tick) (q.end - tick - (low - tick))
after_tick q points k m low tick skipped count o before all is =
    is
    ∙ (ap (λ i. last_found q points k m i (count - i)) before
    ∙ ap (λ i. last_found q points k m (low - tick) (i - (low - tick))) all)

pub later_found : (q : SearchScope) (points : Points) (k : Settings) (low tick : ℕ) (m : State) (o : Option FoundPlace)
    → tick ≡ tick_of m → o ≡ last_found q points k m (low - tick) (q.end - tick - (low - tick))
    → is_some o ≡ true → o ≡ found_from q points k low m
later_found q points k low tick m o at is has =
    sym (or_found o (if nat_le low (tick_of m) then mark_found q points m else None) has)
    ∙ (ap (λ (f : Option FoundPlace). found_or f (if nat_le low (tick_of m) then mark_found q points m else None)) is
    ∙ ap (λ i. found_or (last_found q points k m (low - i) (q.end - i - (low - i)))
    (if nat_le low (tick_of m) then mark_found q points m else None)) at)

pub before_low : (q : SearchScope) (points : Points) (k : Settings) (low tick : ℕ) (m : State) (o : Option FoundPlace)
    → tick ≡ tick_of m → o ≡ last_found q points k m (low - tick) (q.end - tick - (low - tick)) → tick < low
    → o ≡ found_from q points k low m
before_low q points k low tick m o at is early =
    let ends : nat_le low (tick_of m) ≡ false = (let less : tick_of m < low = omega (arith, at, early) in
    grind (arith, nat_tests)) in
    sym (or_none o)
    ∙ (ap (λ (f : Option FoundPlace). found_or f None) is
    ∙ (ap (λ i. found_or (last_found q points k m (low - i) (q.end - i - (low - i))) None) at
    ∙ ap (λ (b : Bool). found_or (last_found q points k m (low - tick_of m) (q.end - tick_of m - (low - tick_of m)))
    (if b then mark_found q points m else None)) (sym ends)))

pub mark_only : (q : SearchScope) (points : Points) (k : Settings) (low tick : ℕ) (m : State) (o : Option FoundPlace)
    → tick ≡ tick_of m → o ≡ last_found q points k m (low - tick) (q.end - tick - (low - tick))
    → is_some o ≡ false → low ≤ tick → mark_found q points m ≡ found_from q points k low m
mark_only q points k low tick m o at is has late =
    let on : nat_le low (tick_of m) ≡ true = (let less : low ≤ tick_of m = omega (arith, at, late) in
    grind (arith, nat_tests)) in
    sym (or_earlier o (mark_found q points m) has)
    ∙ (ap (λ (f : Option FoundPlace). found_or f (mark_found q points m)) is
    ∙ (ap (λ i. found_or (last_found q points k m (low - i) (q.end - i - (low - i))) (mark_found q points m)) at
    ∙ ap (λ (b : Bool). found_or (last_found q points k m (low - tick_of m) (q.end - tick_of m - (low - tick_of m)))
    (if b then mark_found q points m else None)) (sym on)))

-- ---- mark by mark

-- at a mark that isn't after the search's end
at_mark : (q : SearchScope) (points : Points) (k : Settings) (low : ℕ) (o m : State) (marks : List State)
    → nat_lt q.end (tick_of m) ≡ false
    → place_back q points k low o (m ∷ marks)
    ≡ place_or (m ∷ marks) m (found_from q points k low m)
    (if nat_le low (tick_of m) then place_back (before_mark q m) points k low m marks else None)
unfolding place_back
at_mark q points k low o m marks e = rw e refl

-- the first of the marks that are left
first_left : (q : SearchScope) (points : Points) (k : Settings) (low n : ℕ) (s : State) (marks : List State)
    → n < length marks → nat_lt q.end (tick_of (slice_index_or marks n s)) ≡ false
    → place_back q points k low (slice_index_or (s ∷ marks) n s) (drop n marks)
    ≡ place_or (slice_index_or marks n s ∷ drop (suc n) marks) (slice_index_or marks n s)
    (found_from q points k low (slice_index_or marks n s))
    (if nat_le low (tick_of (slice_index_or marks n s))
    then place_back (before_mark q (slice_index_or marks n s)) points k low (slice_index_or marks n s)
    (drop (suc n) marks) else None)
first_left q points k low n s marks there e =
    ap (λ (l : List State). place_back q points k low (slice_index_or (s ∷ marks) n s) l) (drop-cons marks n s there)
    ∙ at_mark q points k low (slice_index_or (s ∷ marks) n s) (slice_index_or marks n s) (drop (suc n) marks) e

-- a mark after the search's end
pub passed_over : (q : SearchScope) (points : Points) (k : Settings) (low n : ℕ) (s : State) (marks : List State)
    → n < length marks → q.end < tick_of (slice_index_or marks n s)
    → place_back q points k low (slice_index_or (s ∷ marks) (n + 1) s) (drop (n + 1) marks)
    ≡ place_back q points k low (slice_index_or (s ∷ marks) n s) (drop n marks)
unfolding place_back
passed_over q points k low n s marks there late =
    let e : nat_lt q.end (tick_of (slice_index_or marks n s)) ≡ true =
    lt-ltb q.end (tick_of (slice_index_or marks n s)) late in
    rw (drop-cons marks n s there, e, add-one) refl

not_after : (a b : ℕ) → b ≤ a → nat_lt a b ≡ false
not_after a b h = grind (arith, nat_tests)

-- a place after a mark
pub found_here : (q : SearchScope) (points : Points) (k : Settings) (low n : ℕ) (s : State) (marks : List State)
    (found : FoundPlace) → n < length marks → tick_of (slice_index_or marks n s) ≤ q.end
    → Some found ≡ found_from q points k low (slice_index_or marks n s)
    → Some (place_of (drop n marks) (slice_index_or marks n s) found)
    ≡ place_back q points k low (slice_index_or (s ∷ marks) n s) (drop n marks)
found_here q points k low n s marks found there h is =
    let m = slice_index_or marks n s in
    let later = if nat_le low (tick_of m) then place_back (before_mark q m) points k low m (drop (suc n) marks)
    else None in
    ap (λ (l : List State). Some (place_of l m found)) (drop-cons marks n s there)
    ∙ (ap (λ (f : Option FoundPlace). place_or (m ∷ drop (suc n) marks) m f later) is
    ∙ sym (first_left q points k low n s marks there (not_after q.end (tick_of m) h)))

-- no place after a mark, and earlier ones aren't searched
pub none_here : (q : SearchScope) (points : Points) (k : Settings) (low n : ℕ) (s : State) (marks : List State)
    → n < length marks → tick_of (slice_index_or marks n s) ≤ q.end → tick_of (slice_index_or marks n s) < low
    → None ≡ found_from q points k low (slice_index_or marks n s)
    → ◌≡◌ {A = Option Place} None (place_back q points k low (slice_index_or (s ∷ marks) n s) (drop n marks))
none_here q points k low n s marks there h early is =
    let m = slice_index_or marks n s in
    let ends : nat_le low (tick_of m) ≡ false = grind (arith, nat_tests) in
    let later = if nat_le low (tick_of m) then place_back (before_mark q m) points k low m (drop (suc n) marks)
    else None in
    sym (ap (λ (b : Bool). if b then place_back (before_mark q m) points k low m (drop (suc n) marks) else None) ends)
    ∙ (ap (λ (f : Option FoundPlace). place_or (m ∷ drop (suc n) marks) m f later) is
    ∙ sym (first_left q points k low n s marks there (not_after q.end (tick_of m) h)))

-- no place after a mark, and the search goes on before it
pub none_yet : (q : SearchScope) (points : Points) (k : Settings) (low n : ℕ) (s : State) (marks : List State)
    → n < length marks → tick_of (slice_index_or marks n s) ≤ q.end → low ≤ tick_of (slice_index_or marks n s)
    → None ≡ found_from q points k low (slice_index_or marks n s)
    → place_back (before_mark q (slice_index_or marks n s)) points k low (slice_index_or (s ∷ marks) (n + 1) s)
    (drop (n + 1) marks)
    ≡ place_back q points k low (slice_index_or (s ∷ marks) n s) (drop n marks)
none_yet q points k low n s marks there h goes is =
    let m = slice_index_or marks n s in
    let on : nat_le low (tick_of m) ≡ true = grind (arith, nat_tests) in
    let later = if nat_le low (tick_of m) then place_back (before_mark q m) points k low m (drop (suc n) marks)
    else None in
    rw add-one (sym (ap (λ (b : Bool). if b then place_back (before_mark q m) points k low m (drop (suc n) marks)
    else None) on)
    ∙ (ap (λ (f : Option FoundPlace). place_or (m ∷ drop (suc n) marks) m f later) is
    ∙ sym (first_left q points k low n s marks there (not_after q.end (tick_of m) h))))

-- before the first mark
pub past_begins : (q : SearchScope) (points : Points) (k : Settings) (low n : ℕ) (s : State) (marks : List State)
    → n ≡ length marks → 0 < n
    → Some (place_of (drop (n - 1) marks) (slice_index_or marks (n - 1) s)
    (record { steps = 0; reason = PastBegins }))
    ≡ place_back q points k low (slice_index_or (s ∷ marks) n s) (drop n marks)
unfolding place_back
past_begins q points k low n s marks all some =
    let m = slice_index_or marks (n - 1) s in
    let last : suc (n - 1) ≡ n = omega (arith, some) in
    let none : drop n marks ≡ [] = rw all (drop-length marks) in
    let one : drop (n - 1) marks ≡ m ∷ [] =
    drop-cons marks (n - 1) s (omega (arith, all, some)) ∙ ap (λ (l : List State). m ∷ l)
    (ap (λ i. drop i marks) last ∙ none) in
    rw none (ap (λ (l : List State). Some (place_of l m (record { steps = 0; reason = PastBegins }))) one
    ∙ ap (λ i. Some (begins (slice_index_or (s ∷ marks) i s))) last)
