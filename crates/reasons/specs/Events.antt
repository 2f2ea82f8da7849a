-- The script of a board, and which of its events a message names: the first that is refused.
use Rattle.std.specs.Prelude.{ℕ, ◌+◌, Bool, true, false, if◌then◌else◌, List, codes, Option, Some, None, is_some}
use Rattle.std.specs.Prelude.{Result, Ok, Err}
use Rattle.toml.specs.Data.{Data, Items, no_items, item, Members, as_array, as_table, get_member}
use Rattle.devices.specs.declared.device.Device.{Device}
use Rattle.board.specs.Texts.{script_in, timely_event}
use Rattle.board.specs.Values.{◌>>=◌, tables_at, is_table}
use Rattle.platform.specs.Boards.{first_tick, max_events}
use Rattle.platform.specs.declared.error.BoardError.{BoardError}
use Rattle.platform.specs.declared.error.BoardError.TheVariants.{WrongKind}
use Rattle.platform.specs.declared.script.ScriptedEvent.{ScriptedEvent}
use Rattle.reasons.specs.declared.events.EventProblem.{EventProblem}
use Rattle.reasons.specs.Problems.{refusal_of}

-- the events of a document, on a board with this many lines and these devices, or the first refusal
abbrev pub script_of : ℕ → List Device → Members → Result (List ScriptedEvent) BoardError
script_of lines devices document =
    tables_at max_events (get_member (codes "event") document) >>= script_in lines devices first_tick

-- the number of the first item that isn't a table, where the first item has this number
abbrev pub first_untabled : ℕ → Items → Option ℕ
first_untabled number no_items = None
first_untabled number (item value others) =
    if is_table (as_table value) then first_untabled (number + 1) others else Some number

-- a list of events is of the wrong kind unless all of them are tables
abbrev pub of_tables : Bool → Result Bool BoardError
of_tables true = Ok true
of_tables false = Err WrongKind

-- there is a table, and it has a key
abbrev pub has_key : List ℕ → Option Members → Bool
has_key key None = false
has_key key (Some fields) = is_some (get_member key fields)

-- the number of the first item that is a table with a key, where the first item has this number
abbrev pub first_with : List ℕ → ℕ → Items → Option ℕ
first_with key number no_items = None
first_with key number (item value others) =
    if has_key key (as_table value) then Some number else first_with key (number + 1) others

-- likewise among the items of a list, if there is one
abbrev pub first_in : List ℕ → Option Items → Option ℕ
first_in key None = None
first_in key (Some items) = first_with key 1 items

-- the number of the first event that has a key, of a document's events if there are any
abbrev pub event_with : List ℕ → Option Data → Option ℕ
event_with key None = None
event_with key (Some value) = first_in key (as_array value)

-- the event with this number is refused; or it is read, and a later one may be refused
abbrev pub refused_or : ℕ → Result ScriptedEvent BoardError → (ℕ → Option (ℕ × BoardError)) → Option (ℕ × BoardError)
refused_or number (Ok event) later = later event.at
refused_or number (Err error) later = Some (number, error)

-- the first event that is refused, where the first event has this number and is to come no earlier than a tick: its
-- number and the refusal
unfoldable pub first_refused : ℕ → List Device → ℕ → ℕ → Items → Option (ℕ × BoardError)
first_refused lines devices before number no_items = None
first_refused lines devices before number (item value others) =
    refused_or number (timely_event lines devices before value)
    (λ at. first_refused lines devices at (number + 1) others)

-- the number of an event that a message names, and the refusal that it explains
abbrev pub refusal_in : EventProblem → ℕ × BoardError
refusal_in p = (p.number, refusal_of p.problem)
