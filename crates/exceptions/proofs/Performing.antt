-- Accesses that are performed one by one.
use Rattle.std.proofs.Common.{◌≡◌, ℕ, suc, ◌+◌, ◌<◌, ◌≤◌, List, [], ◌∷◌, ◌++◌, length, drop, get_or, Some, None, Ok}
use Rattle.std.proofs.Common.{Result, Err, refl, sym, ap, ◌∙◌, append_assoc, add-one}
use Rattle.std.proofs.Math.ListN.{drop_of_length-le}
use Rattle.std.proofs.Math.Seq.{drop-cons}
use Rattle.std.proofs.lemmas.List.{append-nil}
use Rattle.reference.specs.declared.failure.Failure.{Failure}
use Rattle.platform.specs.declared.access.Request.{Request}
use Rattle.platform.specs.declared.event.Event.{Event}
use Rattle.reference.specs.Accesses.{ListResult, followed, perform, perform_all, access_lines, value_of}
use Rattle.reference.specs.State.{Bus, State, with_bus}
use Rattle.trace.specs.Emission.{Emission}

-- what accesses leave after lines and values that are there already
abbrev pub added_to : List Event → List ℕ → ListResult → ListResult
added_to events values all = record all { events = events ++ all.events; values = values ++ all.values }

-- the lines of one access, and its value or failure
abbrev pub lines_by : ℕ → ℕ → Bus → Request → List Event
lines_by exception tick b q = access_lines tick q (perform exception b q).performed

abbrev pub value_by : ℕ → Bus → Request → Result ℕ Failure
value_by exception b q = value_of q (perform exception b q).performed

-- the accesses of a list from its i-th one on
abbrev pub perform_from : ℕ → ℕ → Bus → List Request → ℕ → ListResult
perform_from exception tick b qs i = perform_all exception tick b (drop i qs)

front : (exception tick : ℕ) (b : Bus) (q : Request) (qs : List Request)
    → perform_all exception tick b (q ∷ qs)
    ≡ followed (lines_by exception tick b q) (perform exception b q).after (value_by exception b q)
    (perform_all exception tick (perform exception b q).after qs)
unfolding perform_all
front exception tick b q qs = refl

none_left : (exception tick : ℕ) (b : Bus)
    → perform_all exception tick b [] ≡ record { bus = b; events = []; values = []; failure = None }
unfolding perform_all
none_left exception tick b = refl

followed_on : (events : List Event) (values : List ℕ) (lines : List Event) (after : Bus) (value : ℕ) (rest : ListResult)
    → added_to events values (followed lines after (Ok value) rest)
    ≡ added_to (events ++ lines) (values ++ value ∷ []) rest
followed_on events values lines after value rest =
    rw (append_assoc events lines rest.events, append_assoc values (value ∷ []) rest.values) refl

-- one access more was carried out
pub one_more : (exception tick : ℕ) (b : Bus) (qs : List Request) (i value : ℕ) (d : Request)
    (events : List Event) (values : List ℕ) → i < length qs
    → (let q = get_or qs i d in
    value_by exception b q ≡ Ok value
    → added_to events values (perform_from exception tick b qs i)
    ≡ added_to (events ++ lines_by exception tick b q) (values ++ value ∷ [])
    (perform_from exception tick (perform exception b q).after qs (i + 1)))
one_more exception tick b qs i value d events values below went =
    rw (drop-cons qs i d below, add-one, front, went)
    (followed_on events values (lines_by exception tick b (get_or qs i d))
    (perform exception b (get_or qs i d)).after value
    (perform_all exception tick (perform exception b (get_or qs i d)).after (drop (suc i) qs)))

-- an access failed: the list ends with it
pub ended_early : (exception tick : ℕ) (b : Bus) (qs : List Request) (i : ℕ) (d : Request) (why : Failure)
    (events : List Event) (values : List ℕ) (all : ListResult) → i < length qs
    → (let q = get_or qs i d in
    value_by exception b q ≡ Err why → added_to events values (perform_from exception tick b qs i) ≡ all
    → ((perform exception b q).after ≡ all.bus) × (events ++ lines_by exception tick b q ≡ all.events)
    × (all.failure ≡ Some why))
ended_early exception tick b qs i d why events values all below failed rest =
    let whole = rw (drop-cons qs i d below, front, failed) at rest in (
      ap (λ (s : ListResult). s.bus) whole,
      ap (λ (s : ListResult). s.events) whole,
      sym (ap (λ (s : ListResult). s.failure) whole),
    )

-- no access is left
pub all_performed : (exception tick : ℕ) (b : Bus) (qs : List Request) (i : ℕ) (events : List Event)
    (values : List ℕ) (all : ListResult) → length qs ≤ i
    → added_to events values (perform_from exception tick b qs i) ≡ all
    → (b ≡ all.bus) × (events ≡ all.events) × (values ≡ all.values) × (all.failure ≡ None)
all_performed exception tick b qs i events values all past rest =
    let whole = rw (drop_of_length-le qs past, none_left, append-nil events, append-nil values) at rest in (
      ap (λ (s : ListResult). s.bus) whole,
      ap (λ (s : ListResult). s.events) whole,
      ap (λ (s : ListResult). s.values) whole,
      sym (ap (λ (s : ListResult). s.failure) whole),
    )

-- a sink took these events, and is otherwise as it was at the start
pub emitted_all : (start now : Emission) (all : List Event) → now ≡ record start { events = now.events }
    → now.events ≡ all → now ≡ record start { events = all }
emitted_all start now all same whole = same ∙ ap (λ (es : List Event). record start { events = es }) whole

-- it took more events after those
pub emitted_on : (start mid new : Emission) (more all : List Event) → new ≡ record mid { events = mid.events ++ more }
    → mid ≡ record start { events = mid.events } → mid.events ++ more ≡ all → new ≡ record start { events = all }
emitted_on start mid new more all grown same whole =
    grown ∙ ap (λ (m : Emission). record m { events = mid.events ++ more }) same
    ∙ ap (λ (es : List Event). record start { events = es }) whole

-- and is still otherwise as it was at the start
pub still_before : (start mid new : Emission) (events : List Event) → new ≡ record mid { events = events }
    → mid ≡ record start { events = mid.events } → new ≡ record start { events = new.events }
still_before start mid new events grown same =
    let whole : new ≡ record start { events = events } =
    grown ∙ ap (λ (m : Emission). record m { events = events }) same in
    whole ∙ ap (λ (es : List Event). record start { events = es }) (sym (ap (λ (e : Emission). e.events) whole))

-- one access more, after accesses that changed the bus alone: the bus is what it leaves
pub bus_changed : (first mid new : State) (q : Request) → mid ≡ with_bus first mid.bus
    → new ≡ with_bus mid (perform mid.registers.exception mid.bus q).after
    → new ≡ with_bus first (perform first.registers.exception mid.bus q).after
bus_changed first mid new q same made =
    made ∙ ap (λ (s : State). with_bus s (perform s.registers.exception mid.bus q).after) same

-- again the bus alone has changed
pub own_bus : (first new : State) (after : Bus) → new ≡ with_bus first after → new ≡ with_bus first new.bus
own_bus first new after made = made ∙ ap (λ (b : Bus). with_bus first b) (sym (ap (λ (s : State). s.bus) made))

-- its lines have the tick of the first
pub lines_emitted : (first mid : State) (start new : Emission) (tick : ℕ) (q : Request) → mid ≡ with_bus first mid.bus
    → tick ≡ first.bus.system.time.ticks
    → new ≡ record start {
      events =
          start.events ++ access_lines tick q (perform mid.registers.exception mid.bus q).performed;
    }
    → new ≡ record start {
      events =
          start.events ++ lines_by first.registers.exception first.bus.system.time.ticks mid.bus q;
    }
lines_emitted first mid start new tick q same at_tick made =
    made
    ∙ ap (λ (t : ℕ). record start { events = start.events ++ lines_by mid.registers.exception t mid.bus q }) at_tick
    ∙ ap (λ (s : State). record start {
      events =
          start.events ++ lines_by s.registers.exception first.bus.system.time.ticks mid.bus q;
    }) same

-- and its value is that of the exception of the first
pub value_read : (first mid : State) (q : Request) (value : Result ℕ Failure) → mid ≡ with_bus first mid.bus
    → value ≡ value_by mid.registers.exception mid.bus q → value_by first.registers.exception mid.bus q ≡ value
value_read first mid q value same answer =
    sym (answer ∙ ap (λ (s : State). value_by s.registers.exception mid.bus q) same)
