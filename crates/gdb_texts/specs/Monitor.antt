-- The commands of `monitor` (GDB manual, "General Query Packets", qRcmd; the commands are a choice of this project).
use Rattle.std.specs.Prelude.{ℕ, Bool, true, false, ◌||◌, if◌then◌else◌, List, codes, bytes_eq, Option, Some, None}
use Rattle.std.specs.Prelude.{Result, Ok, Err}
use Rattle.debugger_commands.specs.Commands.{command_in}
use Rattle.debugger_commands.specs.Words.{number}
use Rattle.debugger_commands.specs.declared.changes.Change.{Change}
use Rattle.debugger_commands.specs.declared.changes.Change.TheVariants as change
use Rattle.debugger_commands.specs.declared.commands.Command.{Command}
use Rattle.debugger_commands.specs.declared.commands.Command.TheVariants as command
use Rattle.debugger_commands.specs.declared.commands.LineError.{LineError}
use Rattle.debugger_commands.specs.declared.commands.LineError.TheVariants as error
use Rattle.debugger_commands.specs.declared.commands.Part.{Part}
use Rattle.debugger_commands.specs.declared.commands.Part.TheVariants as part
use Rattle.debugger_commands.specs.declared.conditions.LineSelection.TheVariants as lines
use Rattle.gdb_packets.specs.Numbers.{Parts, parted}
use Rattle.gdb_texts.specs.declared.monitor.Monitor.{Monitor}
use Rattle.gdb_texts.specs.declared.monitor.Monitor.TheVariants as monitor

-- ---- the first word of a text. Words are parted by one space

abbrev pub space : ℕ
space = 32

abbrev pub word_in : List ℕ → Option Parts → List ℕ
word_in text None = text
word_in text (Some parts) = parts.front

abbrev pub first_word : List ℕ → List ℕ
first_word text = word_in text (parted space text)

-- ---- commands that a debug session has too

-- whether a word is the first of such a command
abbrev pub is_shared : List ℕ → Bool
is_shared word =
    bytes_eq word (codes "help") || (bytes_eq word (codes "explain") || (bytes_eq word (codes "regions")
    || (bytes_eq word (codes "state") || (bytes_eq word (codes "next") || (bytes_eq word (codes "trace")
    || (bytes_eq word (codes "stop") || bytes_eq word (codes "place")))))))

abbrev pub shown : Part → Result Monitor LineError
shown part.Regs = Err error.Word
shown (part.Memory a n) = Err error.Word
shown part.Regions = Ok monitor.Regions
shown (part.Explain a privileged kind) = Ok (monitor.Explain a privileged kind)
shown part.State = Ok monitor.State
shown part.Next = Ok monitor.Next
shown part.Help = Ok monitor.Help

abbrev pub placed : Change → Result Monitor LineError
placed (change.Place place) = Ok (monitor.Place place)
placed (change.Signal edge k) = Err error.Word
placed change.Nmi = Err error.Word
placed (change.Save k) = Err error.Word
placed (change.Back k) = Err error.Word

-- the command of a line whose first word `is_shared`
abbrev pub shared : Result Command LineError → Result Monitor LineError
shared (Ok (command.Run n)) = Err error.Word
shared (Ok (command.Task n)) = Err error.Word
shared (Ok (command.Break a)) = Err error.Word
shared (Ok (command.Show p)) = shown p
shared (Ok command.Quit) = Err error.Word
shared (Ok (command.Trace selection)) = Ok (monitor.Trace selection)
shared (Ok (command.Watch w)) = Err error.Word
shared (Ok (command.Stop what on)) = Ok (monitor.Stop what on)
shared (Ok command.Clear) = Err error.Word
shared (Ok command.Script) = Err error.Word
shared (Ok (command.Change c)) = placed c
shared (Err why) = Err error.Word

-- ---- commands that a debug session hasn't

-- whether a word is the first of such a command
abbrev pub is_own : List ℕ → Bool
is_own word =
    bytes_eq word (codes "history") || (bytes_eq word (codes "lines") || (bytes_eq word (codes "step")
    || (bytes_eq word (codes "budget") || (bytes_eq word (codes "restart") || bytes_eq word (codes "why")))))

abbrev pub budget_of : Option ℕ → Option Monitor
budget_of None = None
budget_of (Some steps) = Some (monitor.Budget steps)

abbrev pub budget_after : List ℕ → List ℕ → Option Monitor
budget_after word rest = if bytes_eq word (codes "budget") then budget_of (number rest) else None

-- budget n
abbrev pub budget_in : Option Parts → Option Monitor
budget_in None = None
budget_in (Some parts) = budget_after parts.front parts.rest

-- such a command, and `trace on` and `trace off`
unfoldable pub own : List ℕ → Option Monitor
own text =
    if bytes_eq text (codes "history") then Some monitor.History
    else if bytes_eq text (codes "lines on") then Some (monitor.Lines true)
    else if bytes_eq text (codes "lines off") then Some (monitor.Lines false)
    else if bytes_eq text (codes "step into") then Some (monitor.Step false)
    else if bytes_eq text (codes "step over") then Some (monitor.Step true)
    else if bytes_eq text (codes "trace on") then Some (monitor.Trace lines.All)
    else if bytes_eq text (codes "trace off") then Some (monitor.Trace lines.Console)
    else if bytes_eq text (codes "restart") then Some monitor.Restart
    else if bytes_eq text (codes "why") then Some monitor.Why
    else budget_in (parted space text)

-- ---- all of these. The answer is `error 1` for a first word that isn't known, and `error 2` for other words after it

-- another command: the first word decides whether it or the words after it are wrong
unfoldable pub others : List ℕ → List ℕ → Result Monitor LineError
others word text =
    if is_shared word then shared (command_in 0 (Some text))
    else if is_own word then Err error.Word
    else Err error.Command

abbrev pub or_others : Option Monitor → List ℕ → Result Monitor LineError
or_others None text = others (first_word text) text
or_others (Some m) text = Ok m

-- the command of a text
abbrev pub monitor_of : List ℕ → Result Monitor LineError
monitor_of text = or_others (own text) text
