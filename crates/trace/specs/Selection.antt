-- Which events of a run are written, and the text of those (profile).
use Rattle.std.specs.Prelude.{ℕ, zero, suc, Bool, true, false, not, ◌||◌, ◌&&◌, if◌then◌else◌, ◌==◌, List, [], ◌++◌}
use Rattle.std.specs.Prelude.{Option, Some, None, is_some}
use Rattle.std.specs.List.{filter, filter_map, last_or, list_any}
use Rattle.platform.specs.declared.event.Event.{Event}
use Rattle.platform.specs.declared.event.EventKind.{EventKind}
use Rattle.platform.specs.declared.event.EventKind.TheVariants.{Accessed, ConsoleByte, ReturnBegan, HandlerEntered}
use Rattle.platform.specs.declared.event.EventKind.TheVariants.{FaultRecorded}
use Rattle.platform.specs.declared.exception.TheConstants.{HARD_FAULT, MEM_MANAGE, BUS_FAULT, USAGE_FAULT}
use Rattle.platform.specs.declared.stop.Stop.{Stop}
use Rattle.platform.specs.Events.{byte_of, is_access_with, is_entry_or_return, is_refused, recorded_fault_of}
use Rattle.reference.specs.Run.{after, ending_of, events_of}
use Rattle.reference.specs.State.{State}
use Rattle.reference.specs.Step.{step}
use Rattle.platform.specs.Text.{line_feed, stop_line}
use Rattle.platform.specs.Events.{lines}
use Rattle.trace.specs.declared.selection.TraceSelection.{TraceSelection}
use Rattle.trace.specs.declared.selection.TraceSelection.TheVariants as which

-- ---- the events of a step

-- an access that was refused, or a fault that was recorded
abbrev pub is_refusal_or_fault : EventKind → Bool
is_refusal_or_fault what = is_refused what || is_some (recorded_fault_of what)

-- whether an exception is HardFault, MemManage, BusFault or UsageFault
abbrev pub handles_faults : ℕ → Bool
handles_faults exception =
    ((exception == HARD_FAULT) || (exception == MEM_MANAGE)) || ((exception == BUS_FAULT) || (exception == USAGE_FAULT))

-- the handler of one of these exceptions was entered
abbrev pub enters_fault_handler : EventKind → Bool
enters_fault_handler (Accessed a) = false
enters_fault_handler (ConsoleByte byte) = false
enters_fault_handler (ReturnBegan exc_return) = false
enters_fault_handler (HandlerEntered exception) = handles_faults exception
enters_fault_handler (FaultRecorded fault) = false

-- whether a selection has each event of that kind, in whichever step
abbrev pub selects : TraceSelection → EventKind → Bool
selects which.All what = true
selects which.Refused what = is_refusal_or_fault what
selects which.Faults what = enters_fault_handler what
selects which.Exceptions what = is_refusal_or_fault what || is_entry_or_return what
selects which.Console what = is_some (byte_of what)
selects which.Nothing what = false

-- whether a selection has each event of a step in which an access was refused or a fault was recorded
abbrev pub has_faulty_steps : TraceSelection → Bool
has_faulty_steps which.All = false
has_faulty_steps which.Refused = false
has_faulty_steps which.Faults = true
has_faulty_steps which.Exceptions = false
has_faulty_steps which.Console = false
has_faulty_steps which.Nothing = false

-- whether an access was refused or a fault was recorded
abbrev pub has_refusal_or_fault : List Event → Bool
has_refusal_or_fault events = list_any (λ e. is_refusal_or_fault e.what) events

-- an access that was done
abbrev pub is_done_access : Event → Bool
is_done_access e = is_access_with (λ d. not (is_some d.refused)) e.what

-- the events of the kinds that a selection has
abbrev pub of_kinds : TraceSelection → List Event → List Event
of_kinds selection events = filter (λ e. selects selection e.what) events

-- the events of one step that are written: all of them, where the selection has faulty steps and this is one; else
-- those of the kinds that it has
abbrev pub selected_events : TraceSelection → List Event → List Event
selected_events selection events =
    if has_faulty_steps selection && has_refusal_or_fault events then events else of_kinds selection events

-- ---- their text

-- the bytes that were printed
abbrev pub printed : List Event → List ℕ
printed events = filter_map (λ e. byte_of e.what) events

-- whether a selection writes the printed bytes themselves, and no lines
abbrev pub writes_bytes : TraceSelection → Bool
writes_bytes which.All = false
writes_bytes which.Refused = false
writes_bytes which.Faults = false
writes_bytes which.Exceptions = false
writes_bytes which.Console = true
writes_bytes which.Nothing = false

-- the text of events: their lines, or the bytes that they printed
abbrev pub text_as : TraceSelection → List Event → List ℕ
text_as selection events = if writes_bytes selection then printed events else lines events

-- the text of those events of a step that are selected
abbrev pub selected_text : TraceSelection → List Event → List ℕ
selected_text selection events = text_as selection (selected_events selection events)

-- the text of those events that are of the kinds that a selection has
abbrev pub kinds_text : TraceSelection → List Event → List ℕ
kinds_text selection events = text_as selection (of_kinds selection events)

-- the last byte that was printed, where the bytes themselves are written
abbrev pub last_printed : TraceSelection → List Event → Option ℕ
last_printed which.All events = None
last_printed which.Refused events = None
last_printed which.Faults events = None
last_printed which.Exceptions events = None
last_printed which.Console events = last_or None (kinds_text which.Console events)
last_printed which.Nothing events = None

-- ---- a run

-- the text of n steps: that of the events of each, one after another
unfoldable pub steps_text : (List Event → List ℕ) → ℕ → State → List ℕ
steps_text text zero s = []
steps_text text (suc n) s = steps_text text n s ++ text (step (after n s)).events

-- what begins a line anew after a byte: a line feed, unless the byte is one or there is none
abbrev pub new_line_after : Option ℕ → List ℕ
new_line_after None = []
new_line_after (Some byte) = if byte == 10 then [] else line_feed

-- the end of a run's text: the line of the stop, on a line of its own
abbrev pub selected_end : TraceSelection → List Event → Stop → List ℕ
selected_end selection events stop = new_line_after (last_printed selection events) ++ stop_line stop

-- the text of a run of at most n steps; for `All` it is its `trace`
unfoldable pub selected_trace : TraceSelection → ℕ → State → List ℕ
selected_trace selection n s =
    steps_text (selected_text selection) n s ++ selected_end selection (events_of n s) (ending_of n s)
