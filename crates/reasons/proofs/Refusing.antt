-- The first event that is refused.
use Rattle.std.proofs.Common.{◌≡◌, ℕ, ◌+◌, ◌<◌, ◌≤◌, List, [], length, get_or, drop, Option, Some, None, IsOk, Result}
use Rattle.std.proofs.Common.{Ok, Err, refl, sym, ap, ◌∙◌, subst}
use Rattle.std.proofs.Math.ListN.{drop_of_length-le}
use Rattle.toml.proofs.Views.{items_view-drop}
use Rattle.toml.specs.Data.{Items, no_items, item}
use Rattle.toml.specs.View.{view, items_view}
use Rattle.toml.specs.declared.value.Value.{Value}
use Rattle.platform.specs.declared.error.BoardError.{BoardError}
use Rattle.platform.specs.declared.script.ScriptedEvent.{ScriptedEvent}
use Rattle.devices.specs.declared.device.Device.{Device}
use Rattle.board.specs.Texts.{in_front, script_in, timely_event}
use Rattle.board.specs.Values.{◌>>=◌}
use Rattle.reasons.specs.Events.{first_refused, refused_or}
use Rattle.reasons.specs.Problems.{tick_of}

-- a refusal that is found, if any, is that of a script
abbrev pub IsRefusal : Option (ℕ × BoardError) → Result (List ScriptedEvent) BoardError → Type 0
IsRefusal None read = IsOk read
IsRefusal (Some found) read = read ≡ Err found.1

in_front_too : (event : ScriptedEvent) (found : Option (ℕ × BoardError)) (read : Result (List ScriptedEvent) BoardError)
    → IsRefusal found read → IsRefusal found (in_front event read)
in_front_too event None (Ok events) h = h
in_front_too event None (Err error) h = h
in_front_too event (Some found) (Ok events) h = cc
in_front_too event (Some found) (Err error) h = h

one_more : (number : ℕ) (read : Result ScriptedEvent BoardError) (later : ℕ → Option (ℕ × BoardError))
    (rest : ScriptedEvent → Result (List ScriptedEvent) BoardError)
    → ((event : ScriptedEvent) → IsRefusal (later event.at) (rest event))
    → IsRefusal (refused_or number read later) (read >>= (λ event. in_front event (rest event)))
one_more number (Ok event) later rest h = in_front_too event (later event.at) (rest event) (h event)
one_more number (Err error) later rest h = refl

-- the refusal of a script is that of its first refused event
pub is_refusal : (lines : ℕ) (devices : List Device) (before number : ℕ) (items : Items)
    → IsRefusal (first_refused lines devices before number items) (script_in lines devices before items)
unfolding first_refused script_in
is_refusal lines devices before number no_items = refl
is_refusal lines devices before number (item value others) =
    one_more number (timely_event lines devices before value) (λ at. first_refused lines devices at (number + 1) others)
    (λ event. script_in lines devices event.at others) (λ event. is_refusal lines devices event.at (number + 1) others)

-- the event at an index, and those after it
next : (lines : ℕ) (devices : List Device) (before number : ℕ) (values : List Value) (index : ℕ) (value : Value)
    → index < length values → value ≡ get_or values index value
    → first_refused lines devices before number (items_view (drop index values))
    ≡ refused_or number (timely_event lines devices before (view value))
    (λ at. first_refused lines devices at (number + 1) (items_view (drop (index + 1) values)))
unfolding first_refused
next lines devices before number values index value below is = rw (items_view-drop values index value below, ← is)

passed_by : (number : ℕ) (read : Result ScriptedEvent BoardError) (later : ℕ → Option (ℕ × BoardError)) (at : ℕ)
    → tick_of read ≡ Ok at → refused_or number read later ≡ later at
passed_by number (Ok event) later at is = cc
passed_by number (Err error) later at is = cc

refused_by : (number : ℕ) (read : Result ScriptedEvent BoardError) (later : ℕ → Option (ℕ × BoardError))
    (error : BoardError) → tick_of read ≡ Err error → refused_or number read later ≡ Some (number, error)
refused_by number (Ok event) later error is = cc
refused_by number (Err other) later error is = cc

-- an event that is read
pub passed : (lines : ℕ) (devices : List Device) (before number : ℕ) (values : List Value) (index : ℕ) (value : Value)
    (at : ℕ) (all : Option (ℕ × BoardError)) → index < length values → value ≡ get_or values index value
    → tick_of (timely_event lines devices before (view value)) ≡ Ok at
    → first_refused lines devices before number (items_view (drop index values)) ≡ all
    → first_refused lines devices at (number + 1) (items_view (drop (index + 1) values)) ≡ all
passed lines devices before number values index value at all below is ticks whole =
    sym (passed_by number (timely_event lines devices before (view value)) _ at ticks)
    ∙ sym (next lines devices before number values index value below is) ∙ whole

-- an event that is refused
pub found : (lines : ℕ) (devices : List Device) (before number : ℕ) (values : List Value) (index : ℕ) (value : Value)
    (error : BoardError) (all : Option (ℕ × BoardError)) → index < length values → value ≡ get_or values index value
    → tick_of (timely_event lines devices before (view value)) ≡ Err error
    → first_refused lines devices before number (items_view (drop index values)) ≡ all → Some (number, error) ≡ all
found lines devices before number values index value error all below is refuses whole =
    sym (refused_by number (timely_event lines devices before (view value)) _ error refuses)
    ∙ sym (next lines devices before number values index value below is) ∙ whole

-- no event is left
pub none_found : (lines : ℕ) (devices : List Device) (before number : ℕ) (values : List Value) (index : ℕ)
    (all : Option (ℕ × BoardError)) → length values ≤ index
    → first_refused lines devices before number (items_view (drop index values)) ≡ all → None ≡ all
unfolding first_refused
none_found lines devices before number values index all past whole =
    let nothing : drop index values ≡ [] = drop_of_length-le values past in
    sym (ap (λ (left : List Value). first_refused lines devices before number (items_view left)) nothing) ∙ whole

-- likewise for a script from its first event on
pub is_of_script : (lines : ℕ) (devices : List Device) (values : List Value) (found : Option (ℕ × BoardError))
    → found ≡ first_refused lines devices 1 1 (items_view values)
    → IsRefusal found (script_in lines devices 1 (items_view values))
is_of_script lines devices values found is =
    subst (λ (o : Option (ℕ × BoardError)). IsRefusal o (script_in lines devices 1 (items_view values))) (sym is)
    (is_refusal lines devices 1 1 (items_view values))
