-- What of a step ends a run, and which lines a step has (profile).
use Rattle.std.specs.Prelude.{ℕ, Bool, true, false, not, ◌&&◌, ◌||◌, ◌==◌, if◌then◌else◌, List, [], ◌∷◌, ◌++◌, length}
use Rattle.std.specs.Prelude.{is_some, codes, decimal, Option, Some, None, option_map}
use Rattle.std.specs.List.{filter}
use Rattle.std.specs.Option.{option_or}
use Rattle.debugger_commands.specs.declared.conditions.Hit.{Hit}
use Rattle.debugger_commands.specs.declared.conditions.Hit.TheVariants as hit
use Rattle.debugger_commands.specs.declared.conditions.LineSelection.{LineSelection}
use Rattle.debugger_commands.specs.declared.conditions.LineSelection.TheVariants as lines
use Rattle.debugger_commands.specs.Settings.{Settings}
use Rattle.debugger_commands.specs.Texts.{end_text}
use Rattle.debugger_commands.specs.Watchpoints.{met}
use Rattle.platform.specs.declared.access.Cause.{Cause}
use Rattle.platform.specs.declared.access.DecidedAccess.{DecidedAccess}
use Rattle.platform.specs.declared.event.Event.{Event}
use Rattle.platform.specs.declared.event.EventKind.{EventKind}
use Rattle.platform.specs.declared.event.EventKind.TheVariants.{Accessed, ConsoleByte, ReturnBegan, HandlerEntered}
use Rattle.platform.specs.declared.event.EventKind.TheVariants.{FaultRecorded}
use Rattle.platform.specs.declared.stop.Stop.{Stop}
use Rattle.platform.specs.Events.{byte_of}
use Rattle.platform.specs.Text.{line_feed}
use Rattle.trace.specs.declared.selection.TraceSelection.{TraceSelection}
use Rattle.trace.specs.declared.selection.TraceSelection.TheVariants as which
use Rattle.trace.specs.Selection.{selects}

-- ---- what ends a run

abbrev pub hit_if : Bool → Hit → Option Hit
hit_if on h = if on then Some h else None

-- a watchpoint is met by a granted access alone
abbrev pub access_hit : Settings → DecidedAccess → Option Cause → Option Hit
access_hit k d None = option_map (λ number. hit.Watch number) (met k.watchpoints d.access)
access_hit k d (Some cause) = hit_if k.refused hit.Refused

-- what is hit where an event ends a run
abbrev pub hit_of : Settings → EventKind → Option Hit
hit_of k (Accessed d) = access_hit k d d.refused
hit_of k (ConsoleByte byte) = None
hit_of k (ReturnBegan exc_return) = None
hit_of k (HandlerEntered exception) = hit_if k.exceptions hit.Exception
hit_of k (FaultRecorded fault) = hit_if k.faults hit.Fault

-- what is hit by the first event that ends a run
abbrev pub first_hit : Settings → List Event → Option Hit
first_hit k [] = None
first_hit k (e ∷ es) = option_or (hit_of k e.what) (first_hit k es)

-- ---- the lines of a step

-- the selection of the same name of a whole run
abbrev pub traced : LineSelection → TraceSelection
traced lines.All = which.All
traced lines.Refused = which.Refused
traced lines.Exceptions = which.Exceptions
traced lines.Console = which.Console
traced lines.Nothing = which.Nothing

abbrev pub has_lines : LineSelection → Bool
has_lines lines.All = true
has_lines lines.Refused = true
has_lines lines.Exceptions = true
has_lines lines.Console = true
has_lines lines.Nothing = false

-- a printed byte has a line in a session with scripts, unless no event has one
abbrev pub is_printed : Settings → EventKind → Bool
is_printed k what = (k.is_script && has_lines k.selection) && is_some (byte_of what)

-- an event has its line where the selection has it, or it ends the run
abbrev pub has_line : Settings → EventKind → Bool
has_line k what = (selects (traced k.selection) what || is_printed k what) || is_some (hit_of k what)

-- the events of a step that have a line
abbrev pub written : Settings → List Event → List Event
written k events = filter (λ e. has_line k e.what) events

abbrev pub is_all : LineSelection → Bool
is_all lines.All = true
is_all lines.Refused = false
is_all lines.Exceptions = false
is_all lines.Console = false
is_all lines.Nothing = false

-- every event has its line, and none ends a run
abbrev pub is_plain : Settings → Bool
is_plain k =
    (is_all k.selection && (length k.watchpoints == 0)) && not (k.refused || k.faults || k.exceptions)

-- ---- the end of a run

abbrev pub hit_line : Hit → List ℕ
hit_line hit.Break = codes "hit break" ++ line_feed
hit_line (hit.Watch number) = (codes "hit watch " ++ decimal number) ++ line_feed
hit_line hit.Refused = codes "hit refused" ++ line_feed
hit_line hit.Fault = codes "hit fault" ++ line_feed
hit_line hit.Exception = codes "hit exception" ++ line_feed

-- what was hit has a line in a session with scripts
abbrev pub hit_lines : Bool → Option Hit → List ℕ
hit_lines is_script None = []
hit_lines is_script (Some h) = if is_script then hit_line h else []

abbrev pub run_end_text : Settings → Option Hit → ℕ → Option Stop → List ℕ
run_end_text k h pc stop = hit_lines k.is_script h ++ end_text pc stop
