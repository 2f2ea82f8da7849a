-- The commands of a session, and their lines (profile).
use Rattle.std.specs.Prelude.{ℕ, ◌+◌, ◌-◌, ◌^◌, nat_le, Bool, true, false, if◌then◌else◌, List, codes, bytes_eq, Option}
use Rattle.std.specs.Prelude.{Some, None, Result, Ok, Err}
use Rattle.debugger_commands.specs.declared.changes.Change.{Change}
use Rattle.debugger_commands.specs.declared.commands.Command.{Command}
use Rattle.debugger_commands.specs.declared.commands.Command.TheVariants as command
use Rattle.debugger_commands.specs.declared.commands.LineError.{LineError}
use Rattle.debugger_commands.specs.declared.commands.LineError.TheVariants as error
use Rattle.debugger_commands.specs.declared.commands.Part.{Part}
use Rattle.debugger_commands.specs.declared.commands.Part.TheVariants as part
use Rattle.debugger_commands.specs.declared.conditions.Condition.{Condition}
use Rattle.debugger_commands.specs.declared.conditions.Condition.TheVariants as condition
use Rattle.debugger_commands.specs.declared.conditions.LineSelection.{LineSelection}
use Rattle.debugger_commands.specs.declared.conditions.LineSelection.TheVariants as lines
use Rattle.debugger_commands.specs.Changes.{change_in}
use Rattle.debugger_commands.specs.Words.{TwoWords, ThreeWords, first_word, more_words, one_word, two_words}
use Rattle.debugger_commands.specs.Words.{three_words, number, number_within}
use Rattle.platform.specs.declared.access.Kind.{Kind}
use Rattle.platform.specs.declared.access.Kind.TheVariants.{Fetch, Load, Store}

-- p for privileged code, u for unprivileged code
abbrev pub privilege_of : List ℕ → Option Bool
privilege_of text =
    if bytes_eq text (codes "p") then Some true
    else if bytes_eq text (codes "u") then Some false
    else None

-- r for a load, w for a store, x for a fetch
abbrev pub kind_of : List ℕ → Option Kind
kind_of text =
    if bytes_eq text (codes "r") then Some Load
    else if bytes_eq text (codes "w") then Some Store
    else if bytes_eq text (codes "x") then Some Fetch
    else None

-- r for reads, w for writes, a for both
abbrev pub watched_of : List ℕ → Option (Bool × Bool)
watched_of text =
    if bytes_eq text (codes "r") then Some (true, false)
    else if bytes_eq text (codes "w") then Some (false, true)
    else if bytes_eq text (codes "a") then Some (true, true)
    else None

-- which lines the steps have
abbrev pub selection_of : List ℕ → Option LineSelection
selection_of text =
    if bytes_eq text (codes "all") then Some lines.All
    else if bytes_eq text (codes "refused") then Some lines.Refused
    else if bytes_eq text (codes "exceptions") then Some lines.Exceptions
    else if bytes_eq text (codes "console") then Some lines.Console
    else if bytes_eq text (codes "none") then Some lines.Nothing
    else None

-- what may end a run
abbrev pub condition_of : List ℕ → Option Condition
condition_of text =
    if bytes_eq text (codes "refused") then Some condition.Refused
    else if bytes_eq text (codes "faults") then Some condition.Faults
    else if bytes_eq text (codes "exceptions") then Some condition.Exceptions
    else None

abbrev pub switch_of : List ℕ → Option Bool
switch_of text =
    if bytes_eq text (codes "on") then Some true
    else if bytes_eq text (codes "off") then Some false
    else None

-- a command that takes no word
abbrev pub alone : Command → Option (List ℕ) → Result Command LineError
alone c None = Ok c
alone c (Some more) = Err error.Command

-- a command from its words; it is refused where a word isn't a number or letter that is allowed there
abbrev pub run_of : Option ℕ → Result Command LineError
run_of None = Err error.Word
run_of (Some n) = Ok (command.Run n)

abbrev pub task_of : Option ℕ → Result Command LineError
task_of None = Err error.Word
task_of (Some n) = Ok (command.Task n)

abbrev pub break_of : Option ℕ → Result Command LineError
break_of None = Err error.Word
break_of (Some a) = Ok (command.Break a)

abbrev pub memory_of : Option ℕ → Option ℕ → Result Command LineError
memory_of (Some a) (Some n) = Ok (command.Show (part.Memory a (n - 1)))
memory_of (Some a) None = Err error.Word
memory_of None n = Err error.Word

abbrev pub explain_of : Option ℕ → Option Bool → Option Kind → Result Command LineError
explain_of (Some a) (Some privileged) (Some kind) = Ok (command.Show (part.Explain a privileged kind))
explain_of (Some a) (Some privileged) None = Err error.Word
explain_of (Some a) None kind = Err error.Word
explain_of None privileged kind = Err error.Word

abbrev pub trace_of : Option LineSelection → Result Command LineError
trace_of None = Err error.Word
trace_of (Some selection) = Ok (command.Trace selection)

-- a watchpoint on n bytes from a on, all of them below 2^32
abbrev pub watch_on : Bool × Bool → ℕ → ℕ → Result Command LineError
watch_on watched a n =
    if nat_le (a + n) (2 ^ 32)
    then Ok (command.Watch (record { reads = watched.0; writes = watched.1; address = a; size = n }))
    else Err error.Word

abbrev pub watch_of : Option (Bool × Bool) → Option ℕ → Option ℕ → Result Command LineError
watch_of (Some watched) (Some a) (Some n) = watch_on watched a n
watch_of (Some watched) (Some a) None = Err error.Word
watch_of (Some watched) None n = Err error.Word
watch_of None a n = Err error.Word

abbrev pub stop_of : Option Condition → Option Bool → Result Command LineError
stop_of (Some what) (Some on) = Ok (command.Stop what on)
stop_of (Some what) None = Err error.Word
stop_of None on = Err error.Word

abbrev pub script_of : Option ℕ → Result Command LineError
script_of None = Err error.Word
script_of (Some version) = Ok command.Script

-- run n: from 1 to 1,000,000 steps
abbrev pub read_run : Option (List ℕ) → Result Command LineError
read_run None = Err error.Command
read_run (Some word) = run_of (number_within 1 1000000 word)

-- task n: from 1 to 1,000,000 steps
abbrev pub read_task : Option (List ℕ) → Result Command LineError
read_task None = Err error.Command
read_task (Some word) = task_of (number_within 1 1000000 word)

-- break a
abbrev pub read_break : Option (List ℕ) → Result Command LineError
read_break None = Err error.Command
read_break (Some word) = break_of (number word)

-- mem a n: from 1 to 256 bytes
abbrev pub read_memory : Option TwoWords → Result Command LineError
read_memory None = Err error.Command
read_memory (Some words) = memory_of (number words.first) (number_within 1 256 words.second)

-- explain a p|u r|w|x
abbrev pub read_explain : Option ThreeWords → Result Command LineError
read_explain None = Err error.Command
read_explain (Some words) = explain_of (number words.first) (privilege_of words.others.first)
    (kind_of words.others.second)

-- trace all|refused|exceptions|console|none
abbrev pub read_trace : Option (List ℕ) → Result Command LineError
read_trace None = Err error.Command
read_trace (Some word) = trace_of (selection_of word)

-- watch r|w|a a n: at least one byte
abbrev pub read_watch : Option ThreeWords → Result Command LineError
read_watch None = Err error.Command
read_watch (Some words) = watch_of (watched_of words.first) (number words.others.first)
    (number_within 1 (2 ^ 32 - 1) words.others.second)

-- stop refused|faults|exceptions on|off
abbrev pub read_stop : Option TwoWords → Result Command LineError
read_stop None = Err error.Command
read_stop (Some words) = stop_of (condition_of words.first) (switch_of words.second)

-- script 1: there is no other version
abbrev pub read_script : Option (List ℕ) → Result Command LineError
read_script None = Err error.Command
read_script (Some word) = script_of (number_within 1 1 word)

-- the command of a change
abbrev pub changing : Result Change LineError → Result Command LineError
changing (Ok what) = Ok (command.Change what)
changing (Err why) = Err why

-- the command of a first word, with the words after it, in a session with this many slots
unfoldable pub command_of : ℕ → List ℕ → Option (List ℕ) → Result Command LineError
command_of slots word more =
    if bytes_eq word (codes "step") then alone (command.Run 1) more
    else if bytes_eq word (codes "run") then read_run (one_word more)
    else if bytes_eq word (codes "task") then read_task (one_word more)
    else if bytes_eq word (codes "break") then read_break (one_word more)
    else if bytes_eq word (codes "watch") then read_watch (three_words more)
    else if bytes_eq word (codes "stop") then read_stop (two_words more)
    else if bytes_eq word (codes "clear") then alone command.Clear more
    else if bytes_eq word (codes "trace") then read_trace (one_word more)
    else if bytes_eq word (codes "regs") then alone (command.Show part.Regs) more
    else if bytes_eq word (codes "mem") then read_memory (two_words more)
    else if bytes_eq word (codes "regions") then alone (command.Show part.Regions) more
    else if bytes_eq word (codes "explain") then read_explain (three_words more)
    else if bytes_eq word (codes "state") then alone (command.Show part.State) more
    else if bytes_eq word (codes "next") then alone (command.Show part.Next) more
    else if bytes_eq word (codes "script") then read_script (one_word more)
    else if bytes_eq word (codes "help") then alone (command.Show part.Help) more
    else if bytes_eq word (codes "quit") then alone command.Quit more
    else changing (change_in slots word more)

-- the command of a line, None where the line is too long
unfoldable pub command_in : ℕ → Option (List ℕ) → Result Command LineError
command_in slots None = Err error.Command
command_in slots (Some line) = command_of slots (first_word line) (more_words line)

-- how many steps a run makes at most, where the command is `run` or `step`
abbrev pub steps_of : Result Command LineError → Option ℕ
steps_of (Err why) = None
steps_of (Ok (command.Run n)) = Some n
steps_of (Ok (command.Task n)) = None
steps_of (Ok (command.Break a)) = None
steps_of (Ok (command.Show what)) = None
steps_of (Ok command.Quit) = None
steps_of (Ok (command.Trace selection)) = None
steps_of (Ok (command.Watch watchpoint)) = None
steps_of (Ok (command.Stop what on)) = None
steps_of (Ok command.Clear) = None
steps_of (Ok command.Script) = None
steps_of (Ok (command.Change what)) = None

-- how many steps of a task are made at most, where the command is `task`
abbrev pub task_steps_of : Result Command LineError → Option ℕ
task_steps_of (Err why) = None
task_steps_of (Ok (command.Run n)) = None
task_steps_of (Ok (command.Task n)) = Some n
task_steps_of (Ok (command.Break a)) = None
task_steps_of (Ok (command.Show what)) = None
task_steps_of (Ok command.Quit) = None
task_steps_of (Ok (command.Trace selection)) = None
task_steps_of (Ok (command.Watch watchpoint)) = None
task_steps_of (Ok (command.Stop what on)) = None
task_steps_of (Ok command.Clear) = None
task_steps_of (Ok command.Script) = None
task_steps_of (Ok (command.Change what)) = None

-- which part of the machine is shown, where the command shows one
abbrev pub part_of : Result Command LineError → Option Part
part_of (Err why) = None
part_of (Ok (command.Run n)) = None
part_of (Ok (command.Task n)) = None
part_of (Ok (command.Break a)) = None
part_of (Ok (command.Show what)) = Some what
part_of (Ok command.Quit) = None
part_of (Ok (command.Trace selection)) = None
part_of (Ok (command.Watch watchpoint)) = None
part_of (Ok (command.Stop what on)) = None
part_of (Ok command.Clear) = None
part_of (Ok command.Script) = None
part_of (Ok (command.Change what)) = None

-- whether a command ends the session
abbrev pub quits : Result Command LineError → Bool
quits (Err why) = false
quits (Ok (command.Run n)) = false
quits (Ok (command.Task n)) = false
quits (Ok (command.Break a)) = false
quits (Ok (command.Show what)) = false
quits (Ok command.Quit) = true
quits (Ok (command.Trace selection)) = false
quits (Ok (command.Watch watchpoint)) = false
quits (Ok (command.Stop what on)) = false
quits (Ok command.Clear) = false
quits (Ok command.Script) = false
quits (Ok (command.Change what)) = false

-- what a command changes, where it changes the machine's state or saves it
abbrev pub change_of : Result Command LineError → Option Change
change_of (Err why) = None
change_of (Ok (command.Run n)) = None
change_of (Ok (command.Task n)) = None
change_of (Ok (command.Break a)) = None
change_of (Ok (command.Show what)) = None
change_of (Ok command.Quit) = None
change_of (Ok (command.Trace selection)) = None
change_of (Ok (command.Watch watchpoint)) = None
change_of (Ok (command.Stop what on)) = None
change_of (Ok command.Clear) = None
change_of (Ok command.Script) = None
change_of (Ok (command.Change what)) = Some what
