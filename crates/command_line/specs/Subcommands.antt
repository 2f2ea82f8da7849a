-- What the arguments ask for: a subcommand, whose options have the values that the matches of `clap` have.
use Rattle.std.specs.Prelude.{◌≡◌, ◌^◌, ◌≤◌, ℕ, Bool, false, if◌then◌else◌, List, []}
use Rattle.std.specs.Prelude.{Option, Some, None, codes, option_map}
use Rattle.std.specs.Prelude.{map, unwrap_or}
use Rattle.std.specs.Borrow.{Bor}
use Rattle.std.specs.Str.{bytes_eq}
use Rattle.std.specs.Str.Parse.{IsNumeral, digits_value}
use Rattle.clap.specs.Walk.{Row, Text, all_of, first_of}
use Rattle.command_line.specs.Allowed.{AreAllowed}
use Rattle.command_line.specs.Dumps.{AreDumps}
use Rattle.command_line.specs.Stops.{IsExpected}
use Rattle.command_line.specs.declared.subcommands.DebugOptions.{DebugOptions}
use Rattle.command_line.specs.declared.subcommands.GdbOptions.{GdbOptions}
use Rattle.command_line.specs.declared.subcommands.ReportOptions.{ReportOptions}
use Rattle.command_line.specs.declared.subcommands.RunOptions.{RunOptions}
use Rattle.command_line.specs.declared.subcommands.Subcommand.{Subcommand}
use Rattle.command_line.specs.declared.subcommands.Subcommand.TheVariants.{Run, Report, Tasks, Debug, Gdb}
use Rattle.command_line.specs.declared.subcommands.TasksOptions.{TasksOptions}
use Rattle.trace.specs.declared.selection.TraceSelection.{TraceSelection}
use Rattle.trace.specs.declared.selection.TraceSelection.TheVariants as which

-- ---- the values of options

-- the character `+`
abbrev pub plus : ℕ
plus = 43

-- the number in decimal digits
abbrev pub number_in : List ℕ → ℕ
number_in text = digits_value 10 text

-- a number of steps: digits alone, from 0 to 2^32
abbrev pub IsSteps : List ℕ → Type 0
IsSteps text = IsNumeral 10 text × (number_in text ≤ 2 ^ 32)

-- the option has a number of steps, and this is it
abbrev pub HasSteps : Option (List ℕ) → ℕ → Type 0
HasSteps None steps = ⊥
HasSteps (Some text) steps = IsSteps text × (steps ≡ number_in text)

-- the limit of a session is the number of steps that the option has, and 2^32 without the option
abbrev pub HasLimit : Option (List ℕ) → ℕ → Type 0
HasLimit None limit = limit ≡ 2 ^ 32
HasLimit (Some text) limit = IsSteps text × (limit ≡ number_in text)

-- a number of slots: digits alone, from 0 to 8
abbrev pub IsSlots : List ℕ → Type 0
IsSlots text = IsNumeral 10 text × (number_in text ≤ 8)

-- the option has a number of slots, and this is it; without the option it's 0
abbrev pub HasSlots : Option (List ℕ) → ℕ → Type 0
HasSlots None slots = slots ≡ 0
HasSlots (Some text) slots = IsSlots text × (slots ≡ number_in text)

-- the selection of a word
abbrev pub selection_named : List ℕ → Option TraceSelection
selection_named text =
    if bytes_eq text (codes "all") then Some which.All
    else (if bytes_eq text (codes "refused") then Some which.Refused
    else (if bytes_eq text (codes "faults") then Some which.Faults
    else (if bytes_eq text (codes "exceptions") then Some which.Exceptions
    else (if bytes_eq text (codes "console") then Some which.Console
    else (if bytes_eq text (codes "none") then Some which.Nothing
    else None)))))

-- the selection that is asked for: all events where the option is left out
abbrev pub selection_asked : Option (List ℕ) → Option TraceSelection
selection_asked None = Some which.All
selection_asked (Some text) = selection_named text

-- the selection that the option asks for
abbrev pub IsSelection : Option (List ℕ) → TraceSelection → Type 0
IsSelection text trace = selection_asked text ≡ Some trace

-- whether an option without a value is there: then its value is `true`, and otherwise `false`
abbrev pub is_set : Option (List ℕ) → Bool
is_set None = false
is_set (Some text) = bytes_eq text (codes "true")

-- ---- the options of a subcommand

-- the text of an option that may be left out
abbrev pub text_of : Option (Bor Text) → Option Text
text_of = option_map (λ s. s.now)

-- the texts of an option that may be there several times
abbrev pub texts_of : Text → List Row → List Text
texts_of id rows = unwrap_or (all_of id rows) []

-- the texts that are borrowed, if there are some
abbrev pub texts_in : Option (Bor (List (Bor Text))) → List Text
texts_in texts = unwrap_or (option_map (λ s. map (λ t. t.now) s.now) texts) []

-- the text of an argument that has to be there
abbrev pub IsText : Option Text → Bor Text → Type 0
IsText value text = value ≡ Some text.now

-- the options of `run` have the values of its matches
pub record IsRun (rows : List Row) (run : RunOptions) : Type 0 where
  pub board : IsText (first_of (codes "board") rows) run.board
  pub image : IsText (first_of (codes "image") rows) run.image
  pub steps : HasSteps (first_of (codes "steps") rows) run.steps
  pub trace : IsSelection (first_of (codes "trace") rows) run.trace
  pub expect : IsExpected (first_of (codes "expect") rows) run.expect
  pub state : first_of (codes "state") rows ≡ text_of run.state
  pub dumps : AreDumps (texts_of (codes "dump") rows) run.dumps.items

-- the options of `report` have the values of its matches
pub record IsReport (rows : List Row) (report : ReportOptions) : Type 0 where
  pub board : IsText (first_of (codes "board") rows) report.board
  pub image : IsText (first_of (codes "image") rows) report.image
  pub steps : HasSteps (first_of (codes "steps") rows) report.steps

-- the options of `tasks` have the values of its matches
pub record IsTasks (rows : List Row) (tasks : TasksOptions) : Type 0 where
  pub board : IsText (first_of (codes "board") rows) tasks.board
  pub image : IsText (first_of (codes "image") rows) tasks.image
  pub steps : HasSteps (first_of (codes "steps") rows) tasks.steps
  pub expect_apart : tasks.expect_apart ≡ is_set (first_of (codes "expect-apart") rows)
  pub allowed : AreAllowed (texts_of (codes "allow") rows) tasks.allowed.items

-- the options of `debug` have the values of its matches
pub record IsDebug (rows : List Row) (debug : DebugOptions) : Type 0 where
  pub board : IsText (first_of (codes "board") rows) debug.board
  pub image : IsText (first_of (codes "image") rows) debug.image
  pub slots : HasSlots (first_of (codes "slots") rows) debug.slots

-- the options of `gdb` have the values of its matches
pub record IsGdb (rows : List Row) (gdb : GdbOptions) : Type 0 where
  pub board : IsText (first_of (codes "board") rows) gdb.board
  pub image : IsText (first_of (codes "image") rows) gdb.image
  pub steps : HasLimit (first_of (codes "steps") rows) gdb.steps

-- the subcommand of a name, with the values of its matches
abbrev pub IsNamed : Text → List Row → Subcommand → Type 0
IsNamed name rows (Run run) = (name ≡ codes "run") × IsRun rows run
IsNamed name rows (Report report) = (name ≡ codes "report") × IsReport rows report
IsNamed name rows (Tasks tasks) = (name ≡ codes "tasks") × IsTasks rows tasks
IsNamed name rows (Debug debug) = (name ≡ codes "debug") × IsDebug rows debug
IsNamed name rows (Gdb gdb) = (name ≡ codes "gdb") × IsGdb rows gdb

-- the subcommand that the matches have
abbrev pub IsAsked : Option (Text × List Row) → Subcommand → Type 0
IsAsked None subcommand = ⊥
IsAsked (Some met) subcommand = IsNamed met.0 met.1 subcommand

-- the paths of the files
abbrev pub image_path : Subcommand → Text
image_path (Run run) = run.image.now
image_path (Report report) = report.image.now
image_path (Tasks tasks) = tasks.image.now
image_path (Debug debug) = debug.image.now
image_path (Gdb gdb) = gdb.image.now

abbrev pub board_path : Subcommand → Text
board_path (Run run) = run.board.now
board_path (Report report) = report.board.now
board_path (Tasks tasks) = tasks.board.now
board_path (Debug debug) = debug.board.now
board_path (Gdb gdb) = gdb.board.now
