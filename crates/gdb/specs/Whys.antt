-- The lines that say why a run ended (profile).
use Rattle.std.specs.Prelude.{ℕ, Bool, not, ◌&&◌, ◌||◌, if◌then◌else◌, List, [], ◌++◌, Option, Some, None, is_some}
use Rattle.std.specs.List.{filter, list_any}
use Rattle.gdb.specs.Reasons.{event_hit, is_entry, selection_of}
use Rattle.gdb_texts.specs.declared.watchpoints.Watchpoint.{Watchpoint}
use Rattle.gdb_texts.specs.declared.settings.Settings.{Settings}
use Rattle.gdb_texts.specs.declared.stops.StopReason.{StopReason}
use Rattle.gdb_texts.specs.declared.stops.StopReason.TheVariants as reason
use Rattle.platform.specs.declared.event.Event.{Event}
use Rattle.platform.specs.declared.event.EventKind.{EventKind}
use Rattle.platform.specs.declared.stop.Stop.{Stop}
use Rattle.platform.specs.Events.{lines}
use Rattle.platform.specs.Text.{stop_line}
use Rattle.trace.specs.Selection.{is_refusal_or_fault, new_line_after, selects}

-- whether the settings stop at an event: a refused access, a fault, or a handler's entry
abbrev pub is_stop_event : Settings → EventKind → Bool
is_stop_event k what = (k.refused || k.faults) && is_refusal_or_fault what || k.exceptions && is_entry what

-- whether the line of an event is still to be told: it hits a watchpoint, or the settings stop at it, and the selection
-- hasn't written it, nor will where the step isn't made
abbrev pub needs_line : Settings → List Watchpoint → EventKind → Bool
needs_line k watchpoints what =
    (is_some (event_hit watchpoints what) || is_stop_event k what) && not (selects (selection_of k.selection) what)

-- the lines of those events of a step
abbrev pub needed_lines : Settings → List Watchpoint → List Event → List ℕ
needed_lines k watchpoints events = lines (filter (λ e. needs_line k watchpoints e.what) events)

-- the stop that has a line: the machine stopped, now or before, or its clock is at the limit
abbrev pub stop_with_line : StopReason → Option Stop → Option Stop
stop_with_line (reason.Stopped why) before = Some why
stop_with_line reason.StoppedBefore before = before
stop_with_line reason.Done before = None
stop_with_line (reason.Breakpoint kind) before = None
stop_with_line (reason.Watchpoint kind address) before = None
stop_with_line reason.PastBegins before = None
stop_with_line (reason.Refused cause) before = None
stop_with_line reason.Fault before = None
stop_with_line reason.Entered before = None
stop_with_line reason.Interrupted before = None

abbrev pub stop_text : Option Stop → List ℕ
stop_text None = []
stop_text (Some why) = stop_line why

-- whether a line follows
abbrev pub has_line : Settings → List Watchpoint → List Event → Option Stop → Bool
has_line k watchpoints events stop = list_any (λ e. needs_line k watchpoints e.what) events || is_some stop

-- the lines begin on a line of their own
abbrev pub line_begun : Bool → Option ℕ → List ℕ
line_begun follows last = if follows then new_line_after last else []

abbrev pub lines_of : Settings → List Watchpoint → List Event → Option Stop → Option ℕ → List ℕ
lines_of k watchpoints events stop last =
    line_begun (has_line k watchpoints events stop) last ++ (needed_lines k watchpoints events ++ stop_text stop)

-- the lines of a step with these events, where this was the last byte of the run's text
abbrev pub why_text : Settings → List Watchpoint → List Event → Option Stop → Option ℕ → List ℕ
why_text k watchpoints events stop last = if k.has_lines then lines_of k watchpoints events stop last else []
