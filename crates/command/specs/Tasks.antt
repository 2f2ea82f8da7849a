-- The worlds of a run: the text about them, and the exit status.
use Rattle.std.specs.Prelude.{◌≡◌, ◌⊎◌, ℕ, Bool, if◌then◌else◌, List, Result, Ok, Err}
use Rattle.std.specs.Bool.{Decides}
use Rattle.access_map.specs.Counting.{Worlds, no_worlds}
use Rattle.command.specs.declared.error.Error.{Error}
use Rattle.command.specs.declared.error.Error.TheVariants.{Start, Io}
use Rattle.command.specs.declared.opening.Opened.{Opened}
use Rattle.command.specs.declared.tasks_command.TasksResult.{TasksResult}
use Rattle.command.specs.Opening.{Opens}
use Rattle.command.specs.Sending.{IsCut, SendsAll}
use Rattle.command.specs.Statuses.{error_status, stop_status}
use Rattle.command_line.specs.declared.subcommands.TasksOptions.{TasksOptions}
use Rattle.mpu.specs.declared.spans.Span.{Span}
use Rattle.output.specs.Output.{Writing}
use Rattle.platform.specs.declared.error.BoardError.{BoardError}
use Rattle.platform.specs.declared.error.StartError.TheVariants.{NoMemory}
use Rattle.platform.specs.declared.stop.Stop.{Stop}
use Rattle.platform.specs.Boards.{Described, Numbers, numbers_of}
use Rattle.platform.specs.Images.{image_of}
use Rattle.reference.specs.Run.{ending_of}
use Rattle.reference.specs.State.{State}
use Rattle.symbols.specs.Tables.{places_of, strings_in, symbols_in}
use Rattle.survey_run.specs.WorldRuns.{worlds_after}
use Rattle.access_map.specs.Names.{shown_name}
use Rattle.access_map.specs.WorldText.{AreAllApart, IsWorldsText}

-- ---- a text about worlds is sent; `name` is the name of an address

-- the whole text went out
pub record SendsText (board : Numbers) (name : ℕ → List ℕ) (allowed : List Span) (v : Worlds) (why : Stop)
    (old new : Writing) : Type 0 where
  pub text : List ℕ
  pub is_text : IsWorldsText board name allowed v why text
  pub sends : SendsAll text old new

-- a call of the writer failed, and what was put is a prefix of the text
pub record CutsText (board : Numbers) (name : ℕ → List ℕ) (allowed : List Span) (v : Worlds) (why : Stop)
    (old new : Writing) : Type 0 where
  pub text : List ℕ
  pub is_text : IsWorldsText board name allowed v why text
  pub cut : IsCut text old new

-- the text was sent, and the result says why the run ended and whether all worlds are apart; or memory ran out, and
-- nothing was put; or a call of the writer failed
abbrev pub WritesTasks : Numbers → (ℕ → List ℕ) → List Span → Worlds → Stop → Writing → Writing
    → Result TasksResult Error → Type 0
WritesTasks board name allowed v why old new (Ok outcome) =
    (outcome.stop ≡ why) × Decides outcome.apart (AreAllApart board allowed v)
    × SendsText board name allowed v why old new
WritesTasks board name allowed v why old new (Err error) =
    ((error ≡ Start NoMemory) × (new ≡ old)) ⊎ ((error ≡ Io) × CutsText board name allowed v why old new)

-- ---- a run

-- the name of an address in a file: that of the symbol that names it, or none
abbrev pub name_in_file : List ℕ → ℕ → List ℕ
name_in_file file = shown_name (strings_in file (places_of file)) (symbols_in file (places_of file))

-- the worlds of the reference machine's run from a state, with the names of a file, are written
abbrev pub RunsTasks : Numbers → List ℕ → TasksOptions → State → Writing → Writing → Result TasksResult Error → Type 0
RunsTasks board file tasks s old new result =
    WritesTasks board (name_in_file file) tasks.allowed.items (worlds_after tasks.steps s no_worlds)
    (ending_of tasks.steps s) old new result

-- a run of a machine before its first step; or a refusal, with which nothing is put
abbrev pub RunsTasksFrom : List ℕ → TasksOptions → Result Opened Error → Writing → Writing → Result TasksResult Error
    → Type 0
RunsTasksFrom file tasks (Ok opened) old new result =
    RunsTasks (numbers_of opened.layout) file tasks opened.machine.state old new result
RunsTasksFrom file tasks (Err error) old new result = (result ≡ Err error) × (new ≡ old)

-- 0 where all worlds are apart, else 1, where that is expected; otherwise the status of the stop
abbrev pub result_status : Bool → TasksResult → ℕ
result_status expected outcome = if expected then (if outcome.apart then 0 else 1) else stop_status outcome.stop

abbrev pub tasks_status : Bool → Result TasksResult Error → ℕ
tasks_status expected (Ok outcome) = result_status expected outcome
tasks_status expected (Err error) = error_status error

-- the image in a file is run on a board, the text of its worlds is written, and the status is that of the end
pub record TasksTo (file : List ℕ) (board : Result Described BoardError) (tasks : TasksOptions) (old new : Writing)
    (status : ℕ) : Type 0 where
  pub opened : Result Opened Error
  pub opens : Opens (image_of file) board opened
  pub result : Result TasksResult Error
  pub writes : RunsTasksFrom file tasks opened old new result
  pub is : status ≡ tasks_status tasks.expect_apart result
