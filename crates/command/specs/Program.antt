-- The whole program: from the arguments to the exit status, with what it reads and what it writes.
use Rattle.std.specs.Prelude.{◌≡◌, ◌⊎◌, ◌≤◌, ℕ, Bool, true, List, [], length, Option, None, Result, Ok, Err}
use Rattle.std.specs.Prelude.{string_bytes}
use Rattle.std.specs.Io.KnownBytes.{prepend_known}
use Rattle.command.specs.declared.error.Error.{Error}
use Rattle.command.specs.declared.files.FileError.{FileError}
use Rattle.command.specs.declared.running.FinishedRun.{FinishedRun}
use Rattle.command.specs.Dumping.{DumpsAll}
use Rattle.command.specs.Gdb.{GdbTo}
use Rattle.command.specs.Opening.{board_in_file}
use Rattle.command.specs.Reports.{ReportsTo}
use Rattle.command.specs.Running.{RunsOn}
use Rattle.command.specs.Sending.{IsCut, SendsAll}
use Rattle.command.specs.Sessions.{SessionTo}
use Rattle.command.specs.Statuses.{file_status, max_bytes, run_status}
use Rattle.command.specs.Tasks.{TasksTo}
use Rattle.command_line.specs.Notices.{TakesArguments}
use Rattle.command_line.specs.declared.dumps.Dump.{Dump}
use Rattle.command_line.specs.declared.subcommands.RunOptions.{RunOptions}
use Rattle.command_line.specs.declared.subcommands.Subcommand.{Subcommand}
use Rattle.command_line.specs.declared.subcommands.Subcommand.TheVariants.{Run, Report, Tasks, Debug, Gdb}
use Rattle.command_line.specs.declared.words.ArgsError.{ArgsError}
use Rattle.command_line.specs.declared.words.ArgsError.TheVariants.{Wrong, Help, Version, OutOfMemory}
use Rattle.output.specs.Input.{Reading}
use Rattle.output.specs.Output.{Writing, with_page}
use Rattle.platform.specs.declared.error.BoardError.{BoardError}
use Rattle.platform.specs.declared.error.LoadError.{LoadError}
use Rattle.platform.specs.Boards.{Described}
use Rattle.platform.specs.Images.{Segment, image_of}
use Rattle.reference.specs.State.{State}

-- what a contract sees of what the program reads and writes: standard input, standard output, and the files for the
-- state and the memory after a run, whose bytes count as one text
pub record Streams : Type 0 where
  pub input : Reading
  pub out : Writing
  pub files : Writing

-- ---- with the bytes of the image and of the board

-- the dumps of a run, where it was made
abbrev pub DumpsAfter : List Dump → Result FinishedRun Error → Writing → Writing → Bool → Type 0
DumpsAfter dumps (Ok ran) files files' done = DumpsAll dumps ran.machine.state files files' done
DumpsAfter dumps (Err error) files files' done = files' ≡ files

-- a run, whose last state goes to its file, then its dumps, and the status
pub record RunsAndSaves (image : Result (List Segment) LoadError) (board : Result Described BoardError)
    (run : RunOptions) (old new files files' : Writing) (status : ℕ) : Type 0 where
  pub ran : Result FinishedRun Error
  pub saved : Writing
  pub runs : RunsOn image board run old new files saved ran
  pub done : Bool
  pub dumps : DumpsAfter run.dumps.items ran saved files' done
  pub is : status ≡ run_status run.expect ran done

-- what each subcommand does with the bytes of an image; sessions alone read standard input, and runs alone write files
abbrev pub CarriesOut : Subcommand → List ℕ → Result Described BoardError → Streams → Streams → ℕ → Type 0
CarriesOut (Run run) image board old new status =
    RunsAndSaves (image_of image) board run old.out new.out old.files new.files status × (new.input ≡ old.input)
CarriesOut (Report report) image board old new status =
    ReportsTo (image_of image) board report.steps old.out new.out status × (new.input ≡ old.input)
    × (new.files ≡ old.files)
CarriesOut (Tasks tasks) image board old new status =
    TasksTo image board tasks old.out new.out status × (new.input ≡ old.input) × (new.files ≡ old.files)
CarriesOut (Debug debug) image board old new status =
    SessionTo (image_of image) board debug.slots old.input new.input old.out new.out status × (new.files ≡ old.files)
CarriesOut (Gdb gdb) image board old new status =
    GdbTo (image_of image) board gdb.steps old.input new.input old.out new.out status × (new.files ≡ old.files)

-- ---- with the files of the image and of the board

-- a file can't be read, or is too large, and nothing else happens
pub record FailsToReadFile (old new : Streams) (status : ℕ) : Type 0 where
  pub error : FileError
  pub is : status ≡ file_status error
  pub same : new ≡ old

-- the image and the board have these bytes
pub record PerformsFiles (subcommand : Subcommand) (old new : Streams) (status : ℕ) : Type 0 where
  pub image : List ℕ
  pub board : List ℕ
  pub image_fits : length image ≤ max_bytes
  pub board_fits : length board ≤ max_bytes
  pub performs : CarriesOut subcommand image (board_in_file board) old new status

abbrev pub DoesSubcommand : Subcommand → Streams → Streams → ℕ → Type 0
DoesSubcommand subcommand old new status =
    PerformsFiles subcommand old new status ⊎ FailsToReadFile old new status

-- ---- with the arguments

-- the answer to arguments that ask for no subcommand: help and the version go to standard output
abbrev pub ReportsArgsError : ArgsError → Writing → Writing → ℕ → Type 0
ReportsArgsError (Wrong text) old new status = (status ≡ 2) × (new ≡ old)
ReportsArgsError (Help text) old new status =
    (status ≡ 2) × (SendsAll (string_bytes text) old new ⊎ IsCut (string_bytes text) old new)
ReportsArgsError (Version text) old new status =
    ((status ≡ 0) × SendsAll (string_bytes text) old new) ⊎ ((status ≡ 5) × IsCut (string_bytes text) old new)
ReportsArgsError OutOfMemory old new status = (status ≡ 5) × (new ≡ old)

abbrev pub DoesAsked : Result Subcommand ArgsError → Streams → Streams → ℕ → Type 0
DoesAsked (Ok subcommand) old new status = DoesSubcommand subcommand old new status
DoesAsked (Err error) old new status =
    ReportsArgsError error old.out new.out status × (new.input ≡ old.input) × (new.files ≡ old.files)

-- what the arguments ask for is done
pub record DoesArgs (words : List (List ℕ)) (old new : Streams) (status : ℕ) : Type 0 where
  pub asked : Result Subcommand ArgsError
  pub takes : TakesArguments words asked
  pub does : DoesAsked asked old new status

-- ---- with standard input and output

-- a reader that reads ahead has these bytes more than the reader below it
pub record ReadsAhead (ahead : List ℕ) (seen below : Reading) : Type 0 where
  pub left : seen.left ≡ prepend_known ahead below.left
  pub misses : seen.misses ≡ below.misses

-- Standard input is read ahead, and what goes to standard output is gathered on a page. What was read ahead, and what
-- waits on the page where a call failed, is lost at the end.
pub record DoesOverStreams (words : List (List ℕ)) (old new : Streams) (status : ℕ) : Type 0 where
  pub first : Reading
  pub begins : ReadsAhead [] first old.input
  pub last : Reading
  pub ahead : List ℕ
  pub ends : ReadsAhead ahead last new.input
  pub lost : List ℕ
  pub does : DoesArgs words (record old { input = first })
      (record new { input = last; out = with_page lost new.out }) status

-- the program ends with this status, from streams with these bytes, of which no call has failed, and with these files:
-- `new` is what they were when the program let go of them
pub record EndsWith (words : List (List ℕ)) (left written : Option (List ℕ)) (status : ℕ) : Type 0 where
  pub new : Streams
  pub does : DoesOverStreams words (record {
    input = record { left = left; misses = 0; may_wait = true };
    out = record { written = written; errors = 0; waits = [] };
    files = record { written = None; errors = 0; waits = [] };
  }) new status
