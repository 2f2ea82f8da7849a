-- The loop over the events: those that were read stand in front of those that are left.
use Rattle.std.proofs.Common.{◌≡◌, ℕ, ◌+◌, ◌<◌, List, [], ◌∷◌, ◌++◌, length, get_or, drop, Result, Ok, Err, refl, sym}
use Rattle.std.proofs.Common.{ap, ◌∙◌, append_assoc, suc, ◌≤◌}
use Rattle.std.proofs.Math.ListN.{drop_of_length-le}
use Rattle.std.proofs.lemmas.List.{append-nil}
use Rattle.toml.proofs.Views.{items_view-drop}
use Rattle.toml.specs.View.{view, items_view}
use Rattle.toml.specs.declared.value.Value.{Value}
use Rattle.platform.specs.declared.error.BoardError.{BoardError}
use Rattle.platform.specs.declared.script.ScriptedEvent.{ScriptedEvent}
use Rattle.devices.specs.declared.device.Device.{Device}
use Rattle.board.specs.Texts.{in_front, script_in, timely_event}
use Rattle.board.specs.Values.{◌>>=◌, count}

-- the events that are read, or the first refusal
abbrev Read : Type 0
Read = Result (List ScriptedEvent) BoardError

-- events in front of those that are read after them
abbrev pub after : List ScriptedEvent → Read → Read
after done (Ok rest) = Ok (done ++ rest)
after done (Err error) = Err error

after-in_front : (done : List ScriptedEvent) (event : ScriptedEvent) (rest : Read) →
    after done (in_front event rest) ≡ after (done ++ event ∷ []) rest
after-in_front done event (Ok rest) = ap Ok (sym (append_assoc done (event ∷ []) rest))
after-in_front done event (Err error) = refl

-- the value at an index, and those after it
script_in-next : (interrupts : ℕ) (devices : List Device) (before : ℕ) (values : List Value) (index : ℕ) (value : Value)
    → index < length values → value ≡ get_or values index value
    → script_in interrupts devices before (items_view (drop index values))
    ≡ (timely_event interrupts devices before (view value)
    >>= (λ event. in_front event (script_in interrupts devices event.at (items_view (drop (index + 1) values)))))
unfolding script_in
script_in-next interrupts devices before values index value below is =
    rw (items_view-drop values index value below, ← is)

-- an event that is refused
pub refused : (interrupts : ℕ) (devices : List Device) (before : ℕ) (values : List Value) (index : ℕ) (value : Value)
    (done : List ScriptedEvent) (all : Read) (error : BoardError) →
    index < length values → value ≡ get_or values index value →
    timely_event interrupts devices before (view value) ≡ Err error →
    after done (script_in interrupts devices before (items_view (drop index values))) ≡ all → all ≡ Err error
refused interrupts devices before values index value done all error below is outside whole =
    sym whole
    ∙ ap (after done) (script_in-next interrupts devices before values index value below is)
    ∙ ap (λ (read : Result ScriptedEvent BoardError).
    after done (read >>=
    (λ event. in_front event (script_in interrupts devices event.at (items_view (drop (index + 1) values))))))
    outside

-- an event that is taken
pub taken : (interrupts : ℕ) (devices : List Device) (before : ℕ) (values : List Value) (index : ℕ) (value : Value)
    (done : List ScriptedEvent) (all : Read) (event : ScriptedEvent) →
    index < length values → value ≡ get_or values index value →
    timely_event interrupts devices before (view value) ≡ Ok event →
    after done (script_in interrupts devices before (items_view (drop index values))) ≡ all →
    after (done ++ event ∷ []) (script_in interrupts devices event.at (items_view (drop (index + 1) values))) ≡ all
taken interrupts devices before values index value done all event below is inside whole =
    sym (after-in_front done event (script_in interrupts devices event.at (items_view (drop (index + 1) values))))
    ∙ ap (λ (read : Result ScriptedEvent BoardError).
    after done (read >>=
    (λ event. in_front event (script_in interrupts devices event.at (items_view (drop (index + 1) values))))))
    (sym inside)
    ∙ ap (after done) (sym (script_in-next interrupts devices before values index value below is))
    ∙ whole

-- no value is left
pub finished : (interrupts : ℕ) (devices : List Device) (before : ℕ) (values : List Value) (index : ℕ)
    (done : List ScriptedEvent) (all : Read) → length values ≤ index →
    after done (script_in interrupts devices before (items_view (drop index values))) ≡ all → all ≡ Ok done
unfolding script_in
finished interrupts devices before values index done all past whole =
    let nothing : drop index values ≡ [] = drop_of_length-le values past in
    sym whole ∙ ap (λ (left : List Value). after done (script_in interrupts devices before (items_view left))) nothing
    ∙ ap Ok (append-nil done)

-- the count of the items is the length of the list
pub count_is : (values : List Value) → count (items_view values) ≡ length values
count_is [] = refl
count_is (value ∷ values) = ap suc (count_is values)
