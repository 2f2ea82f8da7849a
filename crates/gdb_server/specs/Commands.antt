-- The commands of `monitor` (GDB manual, "General Query Packets", qRcmd; the commands are a choice of this project).
use Rattle.std.specs.Prelude.{ℕ, List, [], ◌∷◌, ◌++◌, codes, decimal}
use Rattle.std.specs.Prelude.{Option, Some, None}
use Rattle.std.specs.Prelude.{Result, Ok, Err}
use Rattle.debugger.specs.Answers.{next_text, refusal_text}
use Rattle.debugger.specs.StateText.{state_text}
use Rattle.debugger_commands.specs.declared.commands.LineError.{LineError}
use Rattle.debugger_commands.specs.Settings.{ok_text}
use Rattle.debugger_commands.specs.Texts.{decision_text, error_text, region_lines}
use Rattle.gdb.specs.Consoles.{console_after, console_from, flush_text, sent_by}
use Rattle.gdb.specs.Targets.{altered_if}
use Rattle.gdb_past.specs.Places.{Past, tick_of}
use Rattle.gdb_server.specs.Replies.{bytes_in}
use Rattle.gdb_server.specs.Writes.{Written, after_place, done}
use Rattle.gdb_texts.specs.Monitor.{monitor_of}
use Rattle.gdb_texts.specs.Settings.{settings_after}
use Rattle.gdb_texts.specs.Texts.{explanation, monitor_help, why_text}
use Rattle.gdb_texts.specs.declared.monitor.Monitor.{Monitor}
use Rattle.gdb_texts.specs.declared.monitor.Monitor.TheVariants as monitor
use Rattle.gdb_texts.specs.declared.replies.ErrorCode.{ErrorCode}
use Rattle.gdb_texts.specs.declared.settings.Settings.{Settings}
use Rattle.platform.specs.declared.access.Decision.{Decision}
use Rattle.platform.specs.declared.error.PlaceError.{PlaceError}
use Rattle.platform.specs.declared.mpu.TheConstants.{MAX_REGIONS}
use Rattle.platform.specs.Priorities.{is_below_zero}
use Rattle.platform.specs.Rules.{decision_of}
use Rattle.platform.specs.Text.{line_feed}
use Rattle.reference.specs.State.{State}

-- ---- reading a command

-- the command of some digits
abbrev pub command_of : List ℕ → Result Monitor LineError
command_of digits = monitor_of (bytes_in digits)

-- ---- what a command changes

abbrev pub settings_with : Settings → Result Monitor LineError → Settings
settings_with k (Ok m) = settings_after k m
settings_with k (Err why) = k

-- the machine with the value of a command in its place, or in its first state again
abbrev pub placed_by : State → State → Result Monitor LineError → Written
placed_by first s (Ok monitor.Help) = done s
placed_by first s (Ok (monitor.Explain a privileged kind)) = done s
placed_by first s (Ok monitor.Regions) = done s
placed_by first s (Ok monitor.State) = done s
placed_by first s (Ok monitor.Next) = done s
placed_by first s (Ok monitor.History) = done s
placed_by first s (Ok (monitor.Trace selection)) = done s
placed_by first s (Ok (monitor.Lines on)) = done s
placed_by first s (Ok (monitor.Stop what on)) = done s
placed_by first s (Ok (monitor.Step over)) = done s
placed_by first s (Ok (monitor.Budget steps)) = done s
placed_by first s (Ok (monitor.Place place)) = after_place s (altered_if s place)
placed_by first s (Ok monitor.Restart) = done first
placed_by first s (Ok monitor.Why) = done s
placed_by first s (Err why) = done s

-- ---- the text of a command

-- the tick of a state, as a line
abbrev pub tick_line : State → List ℕ
tick_line s = decimal (tick_of s) ++ line_feed

-- the rule of a decision, and what it means
abbrev pub decided_text : Decision → List ℕ
decided_text d = decision_text d ++ explanation d

-- GDB keeps the registers that it read, and reads them again by its own command
abbrev pub flush_advice : List ℕ
flush_advice = codes "ok (gdb: maintenance flush register-cache)" ++ line_feed

-- whether a value was refused
abbrev pub placed_text : Option PlaceError → List ℕ
placed_text None = flush_advice
placed_text (Some why) = refusal_text why

-- the ticks of the marks, the first one first, a line each
abbrev pub mark_lines : List State → List ℕ
mark_lines [] = []
mark_lines (m ∷ marks) = mark_lines marks ++ tick_line m

-- and the tick now
abbrev pub history_text : Past → State → List ℕ
history_text past s = mark_lines past.marks ++ (codes "now " ++ tick_line s)

-- the text of a command after the last refusal of a packet, whose value was refused or not
abbrev pub command_text : Past → State → Option ErrorCode → Option PlaceError → Result Monitor LineError → List ℕ
command_text past s why refused (Ok monitor.Help) = monitor_help
command_text past s why refused (Ok (monitor.Explain a privileged kind)) =
    decided_text (decision_of s.bus.system.mpu a kind privileged (is_below_zero s.bus.system.nvic))
command_text past s why refused (Ok monitor.Regions) = region_lines s.bus.system.mpu MAX_REGIONS
command_text past s why refused (Ok monitor.State) = state_text s
command_text past s why refused (Ok monitor.Next) = next_text s
command_text past s why refused (Ok monitor.History) = history_text past s
command_text past s why refused (Ok (monitor.Trace selection)) = ok_text
command_text past s why refused (Ok (monitor.Lines on)) = ok_text
command_text past s why refused (Ok (monitor.Stop what on)) = ok_text
command_text past s why refused (Ok (monitor.Step over)) = ok_text
command_text past s why refused (Ok (monitor.Budget steps)) = ok_text
command_text past s why refused (Ok (monitor.Place place)) = placed_text refused
command_text past s why refused (Ok monitor.Restart) = flush_advice
command_text past s why refused (Ok monitor.Why) = why_text why
command_text past s why refused (Err wrong) = error_text wrong

-- the packets of a text for GDB's console
abbrev pub console_text : List ℕ → List ℕ
console_text text = sent_by (console_from None) text ++ flush_text (console_after (console_from None) text)
