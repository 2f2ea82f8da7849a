-- The events of a step: the line of the trace that each kind of event has (profile), and what each kind is to the
-- selections of the trace, to the laws and to a survey.
use Rattle.std.specs.Prelude.{ℕ, Bool, true, false, List, [], ◌∷◌, ◌++◌, is_some, Option, Some, None, codes, decimal}
use Rattle.std.specs.Option.{option_map_or}
use Rattle.platform.specs.declared.access.DecidedAccess.{DecidedAccess}
use Rattle.platform.specs.declared.event.Event.{Event}
use Rattle.platform.specs.declared.event.EventKind.{EventKind}
use Rattle.platform.specs.declared.event.EventKind.TheVariants.{Accessed, ConsoleByte, ReturnBegan, HandlerEntered}
use Rattle.platform.specs.declared.event.EventKind.TheVariants.{FaultRecorded}
use Rattle.platform.specs.declared.event.RecordedFault.{RecordedFault}
use Rattle.platform.specs.Text.{hex_byte, hex_word, decided_text, fault_text, line_feed}

-- ---- its line

-- what its line says after the tick: see `Text` for the words
abbrev pub event_text : EventKind → List ℕ
event_text (Accessed a) = decided_text a
event_text (ConsoleByte byte) = codes "O " ++ hex_byte byte
event_text (ReturnBegan exc_return) = codes "R " ++ hex_word exc_return
event_text (HandlerEntered exception) = codes "X " ++ decimal exception
event_text (FaultRecorded f) = codes "! " ++ fault_text f

-- the line of an event
unfoldable pub line : Event → List ℕ
line e = ((decimal e.tick ++ codes " ") ++ event_text e.what) ++ line_feed

-- the lines of events, one after another
unfoldable pub lines : List Event → List ℕ
lines [] = []
lines (e ∷ es) = line e ++ lines es

-- ---- what it is

-- the access that was decided
abbrev pub access_of : EventKind → Option DecidedAccess
access_of (Accessed a) = Some a
access_of (ConsoleByte byte) = None
access_of (ReturnBegan exc_return) = None
access_of (HandlerEntered exception) = None
access_of (FaultRecorded fault) = None

-- the byte that was printed
abbrev pub byte_of : EventKind → Option ℕ
byte_of (Accessed a) = None
byte_of (ConsoleByte byte) = Some byte
byte_of (ReturnBegan exc_return) = None
byte_of (HandlerEntered exception) = None
byte_of (FaultRecorded fault) = None

-- the fault that was recorded
abbrev pub recorded_fault_of : EventKind → Option RecordedFault
recorded_fault_of (Accessed a) = None
recorded_fault_of (ConsoleByte byte) = None
recorded_fault_of (ReturnBegan exc_return) = None
recorded_fault_of (HandlerEntered exception) = None
recorded_fault_of (FaultRecorded fault) = Some fault

-- a handler was entered, or a return began
abbrev pub is_entry_or_return : EventKind → Bool
is_entry_or_return (Accessed a) = false
is_entry_or_return (ConsoleByte byte) = false
is_entry_or_return (ReturnBegan exc_return) = true
is_entry_or_return (HandlerEntered exception) = true
is_entry_or_return (FaultRecorded fault) = false

-- an event is an access that has a property
abbrev pub is_access_with : (DecidedAccess → Bool) → EventKind → Bool
is_access_with property what = option_map_or property (access_of what) false

-- an event is an access that was refused, by a rule or by the bus
abbrev pub is_refused : EventKind → Bool
is_refused what = is_access_with (λ d. is_some d.refused) what
