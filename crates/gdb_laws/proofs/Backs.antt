-- A search for the end of a unit: it ends at the last place before, where one was, and nowhere between.
use Rattle.std.proofs.Common.{◌≡◌, ◌∙◌, ◌⊎◌, ℕ, zero, suc, ◌+◌, ◌-◌, ◌<◌, ◌≤◌, nat_le, nat_lt, Bool, true, false, ◌&&◌}
use Rattle.std.proofs.Common.{List, ◌∷◌, Option, Some, None, ap, arith, if◌then◌else◌, inl, inr, refl, subst, sym}
use Rattle.std.proofs.lemmas.Bool.{cases_lt}
use Rattle.std.proofs.lemmas.Bool.Decides.{nat_tests}
use Rattle.gdb.specs.declared.returns.Return.{Return}
use Rattle.gdb.specs.declared.returns.Return.TheVariants as returning
use Rattle.gdb.specs.declared.searches.FoundPlace.{FoundPlace}
use Rattle.gdb.specs.declared.searches.SearchScope.{SearchScope}
use Rattle.gdb.specs.declared.searches.Way.TheVariants as way
use Rattle.gdb.specs.declared.slices.Points.{Points}
use Rattle.gdb.specs.declared.turns.Turn.{Turn}
use Rattle.gdb.specs.declared.turns.Turn.TheVariants as turning
use Rattle.gdb.specs.Reasons.{reason_if, reason_or}
use Rattle.gdb.specs.Returns.{Returned, low_of, returned_to}
use Rattle.gdb.specs.Searches.{Place, before_mark, ends_unit, found_from, found_if, found_or, last_found, mark_found}
use Rattle.gdb.specs.Searches.{place_back, place_of, place_or, reason_after_steps, reason_of_next}
use Rattle.gdb.specs.Turns.{Turned, turn}
use Rattle.gdb_past.specs.Places.{Past, tick_of}
use Rattle.gdb_laws.proofs.Units.{EndsIn, EndsWhole, OnlyLastEnds, turn_unit}
use Rattle.gdb_laws.proofs.Made.{after_both}
use Rattle.gdb_laws.specs.BackLaw.{EndsUnit, IsAlike, MayStepBack, StepAgainLaw, StepBackLaw}
use Rattle.gdb_laws.specs.RunLaw.{IsEarly}
use Rattle.gdb_server.specs.Conduct.{first_turn, returned, with_return, with_turn}
use Rattle.gdb_server.specs.Sessions.{Session}
use Rattle.gdb_texts.specs.declared.actions.Resume.TheVariants.{Step}
use Rattle.gdb_texts.specs.declared.settings.Settings.{Settings}
use Rattle.gdb_texts.specs.declared.stops.Signal.TheVariants.{Trap}
use Rattle.gdb_texts.specs.declared.stops.StopReason.{StopReason}
use Rattle.gdb_texts.specs.declared.stops.StopReason.TheVariants as reason
use Rattle.platform.specs.declared.stop.Stop.{Stop}
use Rattle.platform.specs.Time.{last_tick}
use Rattle.reference.specs.Run.{after}
use Rattle.reference.specs.State.{State}
use Rattle.reference.specs.Step.{step}
use Rattle.serving.specs.Pieces.{last_state}
use Rattle.step_laws.specs.TickLaw.{TakesTick}

-- ---- the places after a mark, from the last one down

-- a search of a step back, which began at a tick
abbrev scope_of : ℕ → SearchScope
scope_of now = record { way = way.Step; now = now; end = now; continues = false }

module _ (now : ℕ) (points : Points) (k : Settings) (m : State) where
  -- why the search ends after n + 1 steps from the mark
  abbrev why_after : ℕ → Option StopReason
  why_after n = reason_after_steps (scope_of now) points k m n

  no_next : (on : Bool) (s : State) → (if on then reason_of_next way.Step points s else None) ≡ None
  no_next true s = refl
  no_next false s = refl

  why_none : (n : ℕ) → nat_lt (tick_of m + suc n) now && ends_unit (after n m) ≡ false → why_after n ≡ None
  why_none n none =
      ap (λ (b : Bool). reason_or (reason_if b reason.Done) (if nat_lt (tick_of m + suc n) now
      then reason_of_next way.Step points (step (after n m)).state else None)) none
      ∙ no_next (nat_lt (tick_of m + suc n) now) (step (after n m)).state

  why_done : (n : ℕ) → nat_lt (tick_of m + suc n) now && ends_unit (after n m) ≡ true → why_after n ≡ Some reason.Done
  why_done n done =
      ap (λ (b : Bool). reason_or (reason_if b reason.Done) (if nat_lt (tick_of m + suc n) now
      then reason_of_next way.Step points (step (after n m)).state else None)) done

  -- no place among n after the first `low` ones
  none_found : (low n : ℕ) → ((i : ℕ) → low ≤ i → i < low + n → why_after i ≡ None)
      → last_found (scope_of now) points k m low n ≡ None
  unfolding last_found
  none_found low zero none = refl
  none_found low (suc n) none =
      ap (λ (o : Option StopReason). found_if (suc (low + n)) o (last_found (scope_of now) points k m low n))
      (none (low + n) (omega arith) (omega arith))
      ∙ none_found low n (λ i above below. none i above (omega (arith, below)))

  -- the place after j + 1 steps is the last one among them
  last_is : (low n j : ℕ) → low ≤ j → j < low + n → why_after j ≡ Some reason.Done
      → ((i : ℕ) → j < i → i < low + n → why_after i ≡ None)
      → last_found (scope_of now) points k m low n ≡ Some (record { steps = suc j; reason = reason.Done })
  unfolding last_found
  last_is low zero j above below here none = absurd (omega (arith, above, below))
  last_is low (suc n) j above below here none = elim (cases_lt j (low + n)) [
    | inl before ↦
        ap (λ (o : Option StopReason). found_if (suc (low + n)) o (last_found (scope_of now) points k m low n))
        (none (low + n) before (omega arith))
        ∙ last_is low n j above before here (λ i after_j under. none i after_j (omega (arith, under)))
    | inr late ↦ (let at : low + n ≡ j = omega (arith, late, below) in
        rw at (ap (λ (o : Option StopReason). found_if (suc j) o (last_found (scope_of now) points k m low n)) here))
  ]

-- ---- from a place j steps after the mark, where a unit of n steps followed

before_now : (now tick n : ℕ) → tick + n < now → nat_lt (tick + n) now ≡ true
before_now now tick n below = grind (arith, nat_tests)

not_before : (now tick n : ℕ) → now ≤ tick + n → nat_lt (tick + n) now ≡ false
not_before now tick n late = grind (arith, nat_tests)

and_false : (b : Bool) → b && false ≡ false
and_false true = refl
and_false false = refl

module _ (points : Points) (k : Settings) (m : State) (j n now : ℕ) (some : 0 < n)
    (at : now ≡ tick_of m + (j + n)) (quiet : OnlyLastEnds (after j m) n)
  where
    -- no place after it
    none_after : (i : ℕ) → j ≤ i → why_after now points k m i ≡ None
    none_after i late = elim (cases_lt (suc i) (j + n)) [
      | inl inside ↦ (let b : suc (i - j) < n = omega (arith, late, inside) in
          let e : j + (i - j) ≡ i = omega (arith, late) in
          let un : ends_unit (after i m) ≡ false = ap (λ (x : ℕ). ends_unit (after x m)) (sym e)
          ∙ (ap ends_unit (after_both j (i - j) m) ∙ quiet (i - j) b) in
          why_none now points k m i (ap (λ (b : Bool). nat_lt (tick_of m + suc i) now && b) un
          ∙ and_false (nat_lt (tick_of m + suc i) now)))
      | inr past ↦ (let b : now ≤ tick_of m + suc i = omega (arith, at, past) in
          why_none now points k m i (ap (λ (x : Bool). x && ends_unit (after i m))
          (not_before now (tick_of m) (suc i) b)))
    ]

    abbrev here : FoundPlace
    here = record { steps = j; reason = reason.Done }

    -- the marks from m on, the last one first: the search is in the places after m
    place_from : (low : ℕ) (oldest : State) (marks : List State) (found : Option FoundPlace)
        → found_from (scope_of now) points k low m ≡ found
        → place_back (scope_of now) points k low oldest (m ∷ marks)
        ≡ place_or (m ∷ marks) m found
        (if nat_le low (tick_of m) then place_back (before_mark (scope_of now) m) points k low m marks else None)
    unfolding place_back
    place_from low oldest marks found is =
        let early : nat_lt now (tick_of m) ≡ false = (let b : tick_of m ≤ now = omega (arith, at) in
        grind (arith, nat_tests)) in
        ap (λ (b : Bool). if b then place_back (scope_of now) points k low m marks
        else place_or (m ∷ marks) m (found_from (scope_of now) points k low m)
        (if nat_le low (tick_of m) then place_back (before_mark (scope_of now) m) points k low m marks else None)) early
        ∙ ap (λ (f : Option FoundPlace). place_or (m ∷ marks) m f
        (if nat_le low (tick_of m) then place_back (before_mark (scope_of now) m) points k low m marks else None)) is

    -- where the search goes down to a later tick, it finds nothing there and ends
    none_from : (low : ℕ) (oldest : State) (marks : List State)
        → last_found (scope_of now) points k m (low - tick_of m) (now - tick_of m - (low - tick_of m)) ≡ None
        → tick_of m < low → place_back (scope_of now) points k low oldest (m ∷ marks) ≡ None
    none_from low oldest marks none late =
        let b : nat_le low (tick_of m) ≡ false = grind (arith, nat_tests) in
        place_from low oldest marks None (ap (λ (f : Option FoundPlace). found_or f
        (if nat_le low (tick_of m) then mark_found (scope_of now) points m else None)) none
        ∙ ap (λ (x : Bool). if x then mark_found (scope_of now) points m else None) b)
        ∙ ap (λ (x : Bool). if x then place_back (before_mark (scope_of now) m) points k low m marks else None) b

    some_from : (low : ℕ) (oldest : State) (marks : List State)
        → found_from (scope_of now) points k low m ≡ Some here
        → place_back (scope_of now) points k low oldest (m ∷ marks) ≡ Some (place_of (m ∷ marks) m here)
    some_from low oldest marks is = place_from low oldest marks (Some here) is

-- the place is found, or the search ends before it and asks
module _ (points : Points) (k : Settings) (m : State) (n now : ℕ) (some : 0 < n) where
  pub goes_back : (j low : ℕ) (oldest : State) (marks : List State) → now ≡ tick_of m + (j + n)
      → OnlyLastEnds (after j m) n → EndsUnit m j
      → (place_back (scope_of now) points k low oldest (m ∷ marks)
      ≡ Some (place_of (m ∷ marks) m (record { steps = j; reason = reason.Done })))
      ⊎ (place_back (scope_of now) points k low oldest (m ∷ marks) ≡ None)
  goes_back zero low oldest marks at quiet unit =
      let none = none_found now points k m (low - tick_of m) (now - tick_of m - (low - tick_of m))
      (λ i above below. none_after points k m 0 n now some at quiet i (omega arith)) in
      elim (cases_lt (tick_of m) low) [
        | inl late ↦ inr (none_from points k m 0 n now some at quiet low oldest marks none late)
        | inr early ↦ (let b : nat_le low (tick_of m) ≡ true = grind (arith, nat_tests) in
            let before : nat_lt (tick_of m) now ≡ true = (let less : tick_of m < now = omega (arith, at, some) in
            grind (arith, nat_tests)) in
            inl (some_from points k m 0 n now some at quiet low oldest marks
            (ap (λ (f : Option FoundPlace). found_or f
            (if nat_le low (tick_of m) then mark_found (scope_of now) points m else None)) none
            ∙ (ap (λ (x : Bool). if x then mark_found (scope_of now) points m else None) b
            ∙ ap (λ (x : Bool). found_if 0 (reason_if x reason.Done) None) before))))
      ]
  goes_back (suc i) low oldest marks at quiet unit = elim (cases_lt i (low - tick_of m)) [
    | inl late ↦
        (let none = none_found now points k m (low - tick_of m) (now - tick_of m - (low - tick_of m))
        (λ x above below. none_after points k m (suc i) n now some at quiet x (omega (arith, late, above))) in
        inr (none_from points k m (suc i) n now some at quiet low oldest marks none (omega (arith, late))))
    | inr early ↦
        (let below : i < low - tick_of m + (now - tick_of m - (low - tick_of m)) = omega (arith, at, early, some) in
        let before : tick_of m + suc i < now = omega (arith, at, some) in
        let done : nat_lt (tick_of m + suc i) now && ends_unit (after i m) ≡ true =
        rw (before_now now (tick_of m) (suc i) before) unit in
        inl (some_from points k m (suc i) n now some at quiet low oldest marks
        (ap (λ (f : Option FoundPlace). found_or f
        (if nat_le low (tick_of m) then mark_found (scope_of now) points m else None))
        (last_is now points k m (low - tick_of m) (now - tick_of m - (low - tick_of m)) i early below
        (why_done now points k m i done)
        (λ x late under. none_after points k m (suc i) n now some at quiet x (omega (arith, late)))))))
  ]

-- ---- a step and a step back

-- the clock after some steps
counted : (limit : ℕ) (s : State) (n : ℕ) → ((u : State) → TakesTick u) → limit ≤ last_tick
    → ((i : ℕ) → i < n → (after i s).stop ≡ None) → IsEarly limit s n → tick_of (after n s) ≡ tick_of s + n
unfolding after
counted limit s zero ticks within going early = omega arith
counted limit s (suc n) ticks within going early =
    let now = early n (omega arith) in
    let one = ticks (after n s) (going n (omega arith)) (omega (arith, now, within)) in
    let before = counted limit s n ticks within (λ i less. going i (omega (arith, less)))
    (λ i less. early i (omega (arith, less))) in
    omega (arith, one, before)

-- what a search leaves that ended
abbrev Back : Session → State → State → Returned → Type 0
Back j there s r = (returned j r).session.running ≡ None → (last_state there r.pieces ≡ s) × (r.past ≡ j.past)

returned_back : (j : Session) (there s : State) (q : SearchScope) (low : ℕ) (m : State) (marks : List State) (n : ℕ)
    (o : Option Place) → j.past.marks ≡ m ∷ marks → s ≡ after n m
    → ((o ≡ Some (place_of (m ∷ marks) m (record { steps = n; reason = reason.Done }))) ⊎ (o ≡ None))
    → Back j there s (returned_to j.settings j.points j.features j.past q low there o)
returned_back j there s q low m marks n o are is (inl found) =
    subst (λ (p : Option Place). Back j there s (returned_to j.settings j.points j.features j.past q low there p))
    (sym found)
    (λ ended. (sym is, ap (λ (l : List State). let past : Past = record j.past { marks = l } in past) (sym are)))
returned_back j there s q low m marks n o are is (inr none) =
    subst (λ (p : Option Place). Back j there s (returned_to j.settings j.points j.features j.past q low there p))
    (sym none) (λ ended. absurd cc)

-- a search leaves the rest of the session
alike_after : (k j : Session) (o : Return) (sent : List ℕ) (past : Past) → IsAlike k j → past ≡ j.past
    → IsAlike k (with_return (record j { sent = sent; past = past }) o)
alike_after k j (returning.Asks search) sent past alike same = record {
  points = alike.points;
  settings = alike.settings;
  features = alike.features;
  limit = alike.limit;
  past = same ∙ alike.past;
}
alike_after k j (returning.Ends signal) sent past alike same = record {
  points = alike.points;
  settings = alike.settings;
  features = alike.features;
  limit = alike.limit;
  past = same ∙ alike.past;
}

pub back_law : ((u : State) → TakesTick u) → (k j : Session) (s : State) (tail more : List ℕ)
    → StepBackLaw k j s tail more
back_law ticks k j s tail more may goes =
    let here = may.here in
    let t : Turned = turn k.points k.settings k.features k.limit (first_turn Step) s in
    let unit = turn_unit k.limit k.settings may.into k.points k.features (first_turn Step) s refl refl refl in
    let there : State = last_state s t.pieces in
    let tick : tick_of there ≡ tick_of s + unit.steps =
    ap tick_of unit.state ∙ counted k.limit s unit.steps ticks may.limit unit.going unit.early in
    let some : 0 < unit.steps = omega (arith, goes.made, tick) in
    let now : tick_of there ≡ tick_of here.mark + (here.steps + unit.steps) = omega (arith, tick, here.tick) in
    let low : ℕ = low_of j.features (tick_of there) in
    let marks : j.past.marks ≡ here.mark ∷ here.earlier =
    ap (λ (past : Past). past.marks) goes.alike.past ∙ here.marks in
    let found = goes_back j.points j.settings here.mark unit.steps (tick_of there) some here.steps low there
    here.earlier now (subst (λ (u : State). OnlyLastEnds u unit.steps) here.state unit.last) here.unit in
    let found_there = subst (λ (list : List State).
    (place_back (scope_of (tick_of there)) j.points j.settings low there list
    ≡ Some (place_of (here.mark ∷ here.earlier) here.mark (record { steps = here.steps; reason = reason.Done })))
    ⊎ (place_back (scope_of (tick_of there)) j.points j.settings low there list ≡ None)) (sym marks) found in
    let back = returned_back j there s (scope_of (tick_of there)) low here.mark here.earlier here.steps _ marks
    here.state found_there goes.ended in
    record { state = back.0; alike = alike_after k j _ _ _ goes.alike back.1 }

-- ---- the state after a step

-- the session after a turn
alike_turn : (k : Session) (o : Turn) (sent : List ℕ) → IsAlike k (with_turn (record k { sent = sent }) o)
alike_turn k (turning.Asks run) sent =
    record { points = refl; settings = refl; features = refl; limit = refl; past = refl }
alike_turn k (turning.Ends signal) sent =
    record { points = refl; settings = refl; features = refl; limit = refl; past = refl }

may_after : (k : Session) (o : Turn) (sent : List ℕ) (s : State) → MayStepBack k s
    → MayStepBack (with_turn (record k { sent = sent }) o) s
may_after k (turning.Asks run) sent s may = record { here = may.here; into = may.into; limit = may.limit }
may_after k (turning.Ends signal) sent s may = record { here = may.here; into = may.into; limit = may.limit }

-- the unit that it made
unit_in : (k : Session) (o : Turn) (stop : Option Stop) (X : Type 0) → (with_turn k o).running ≡ None
    → (with_turn k o).signal ≡ Trap → stop ≡ None → EndsWhole o stop X → X
unit_in k (turning.Asks run) stop X ended trap goes whole = absurd (let w : ⊥ = cc in w)
unit_in k (turning.Ends signal) stop X ended trap goes whole = whole trap goes

pub again_law : ((u : State) → TakesTick u) → (k : Session) (s : State) (tail : List ℕ) → StepAgainLaw k s tail
again_law ticks k s tail may made =
    let here = may.here in
    let t : Turned = turn k.points k.settings k.features k.limit (first_turn Step) s in
    let unit = turn_unit k.limit k.settings may.into k.points k.features (first_turn Step) s refl refl refl in
    let there : State = last_state s t.pieces in
    let goes : (after unit.steps s).stop ≡ None = ap (λ (u : State). u.stop) (sym unit.state) ∙ made.going in
    let ends = unit_in (record k { sent = t.sent }) t.outcome (after unit.steps s).stop (EndsIn s unit.steps) made.ended
    made.signal goes (unit.whole (made.breakpoints, made.watchpoints)) in
    let tick : tick_of there ≡ tick_of s + unit.steps =
    ap tick_of unit.state ∙ counted k.limit s unit.steps ticks may.limit unit.going unit.early in
    let is = ends.is in
    let number : here.steps + unit.steps ≡ suc (here.steps + ends.index) = omega (arith, is) in record {
      may = may_after k t.outcome t.sent there (record {
        here = record {
          mark = here.mark;
          earlier = here.earlier;
          marks = here.marks;
          steps = here.steps + unit.steps;
          state = unit.state ∙ (ap (after unit.steps) here.state ∙ sym (after_both here.steps unit.steps here.mark));
          tick = omega (arith, tick, here.tick);
          unit = subst (EndsUnit here.mark) (sym number) (ap ends_unit (after_both here.steps ends.index here.mark
              ∙ ap (after ends.index) (sym here.state)) ∙ ends.unit);
        };
        into = may.into;
        limit = may.limit;
      });
      alike = alike_turn k t.outcome t.sent;
    }
