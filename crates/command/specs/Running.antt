-- A run of the program: the bytes of its trace and of its state file.
use Rattle.std.specs.Prelude.{◌≡◌, ◌⊎◌, ◌+◌, ℕ, Bool, true, false, if◌then◌else◌, List, [], ◌++◌, codes}
use Rattle.std.specs.Prelude.{Option, Some, None, Result, Ok, Err}
use Rattle.std.specs.Str.{bytes_eq}
use Rattle.command.specs.declared.error.Error.{Error}
use Rattle.command.specs.declared.error.Error.TheVariants.{Io, Usage}
use Rattle.command.specs.declared.opening.Opened.{Opened}
use Rattle.command.specs.declared.running.FinishedRun.{FinishedRun}
use Rattle.command.specs.Dumping.{are_all_in_memory}
use Rattle.command.specs.Opening.{Opens}
use Rattle.command.specs.Sending.{IsCut, SendsAll}
use Rattle.command_line.specs.declared.subcommands.RunOptions.{RunOptions}
use Rattle.command_line.specs.Subcommands.{text_of}
use Rattle.debugger.specs.StateText.{state_text}
use Rattle.output.specs.Output.{IsCutShort, Writing, WritesAll}
use Rattle.platform.specs.declared.error.BoardError.{BoardError}
use Rattle.platform.specs.declared.error.LoadError.{LoadError}
use Rattle.platform.specs.declared.stop.Stop.{Stop}
use Rattle.platform.specs.Boards.{Described}
use Rattle.platform.specs.Images.{Segment}
use Rattle.reference.specs.Run.{after, ending_of}
use Rattle.reference.specs.State.{State}
use Rattle.trace.specs.Selection.{selected_trace}

-- ---- the file for the state after a run

-- the text of a state went out, where a file is named for it; else nothing was put
abbrev pub Saves : Option (List ℕ) → State → Writing → Writing → Type 0
Saves None s old new = new ≡ old
Saves (Some path) s old new = WritesAll old new (state_text s)

-- a file is named, and a call of its writer failed: a proper prefix of the text went out
abbrev pub FailsToSave : Option (List ℕ) → State → Writing → Writing → Type 0
FailsToSave None s old new = ⊥
FailsToSave (Some path) s old new =
    IsCutShort old.written new.written (state_text s) × (new.errors ≡ old.errors + 1)

abbrev pub Saved : Option (List ℕ) → State → Writing → Writing → Result (Unit {0}) Error → Type 0
Saved path s old new (Ok done) = Saves path s old new
Saved path s old new (Err error) = (error ≡ Io) × FailsToSave path s old new

-- ---- the text for standard output

-- `-` in place of a path is standard output
abbrev pub is_dash : List ℕ → Bool
is_dash path = bytes_eq path (codes "-")

-- the state after the run, where it is asked for on standard output
abbrev pub state_shown : Option (List ℕ) → State → List ℕ
state_shown None s = []
state_shown (Some path) s = if is_dash path then state_text s else []

-- the path of the file for the state, if it goes to a file
abbrev pub state_file : Option (List ℕ) → Option (List ℕ)
state_file None = None
state_file (Some path) = if is_dash path then None else Some path

-- the selected events of a run from a state, and after them the last state where it is asked for there
abbrev pub output_of : RunOptions → State → List ℕ
output_of run s = selected_trace run.trace run.steps s ++ state_shown (text_of run.state) (after run.steps s)

-- ---- a run

-- a run from a state ends with the reference machine's stop, and the whole text for standard output went out; or a call
-- of the writer failed, and what was put is a prefix of that text
abbrev pub Traces : RunOptions → State → Writing → Writing → Result Stop Error → Type 0
Traces run s old new (Ok why) = (why ≡ ending_of run.steps s) × SendsAll (output_of run s) old new
Traces run s old new (Err error) = (error ≡ Io) × IsCut (output_of run s) old new

-- the same, and then the last state goes to its file; or a call of the file's writer failed
abbrev pub Runs : RunOptions → State → Writing → Writing → Writing → Writing → Result FinishedRun Error → Type 0
Runs run s old new file file' (Ok ran) =
    Traces run s old new (Ok ran.stop) × (ran.machine.state ≡ after run.steps s)
    × Saves (state_file (text_of run.state)) (after run.steps s) file file'
Runs run s old new file file' (Err error) =
    (Traces run s old new (Err error) × (file' ≡ file))
    ⊎ ((error ≡ Io) × SendsAll (output_of run s) old new
    × FailsToSave (state_file (text_of run.state)) (after run.steps s) file file')

-- nothing is run, and nothing is put
abbrev pub RunsNothing : Error → Writing → Writing → Writing → Writing → Result FinishedRun Error → Type 0
RunsNothing error old new file file' result = (result ≡ Err error) × (new ≡ old) × (file' ≡ file)

-- a run, where all bytes that are to go to files are in memory; else the arguments are wrong
abbrev pub RunsIf : Bool → RunOptions → State → Writing → Writing → Writing → Writing → Result FinishedRun Error
    → Type 0
RunsIf true run s old new file file' result = Runs run s old new file file' result
RunsIf false run s old new file file' result = RunsNothing Usage old new file file' result

-- a run of a machine before its first step; or a refusal
abbrev pub RunsFrom : RunOptions → Result Opened Error → Writing → Writing → Writing → Writing
    → Result FinishedRun Error
    → Type 0
RunsFrom run (Ok opened) old new file file' result =
    RunsIf (are_all_in_memory opened.machine.state.bus.memory run.dumps.items) run opened.machine.state old new file
    file' result
RunsFrom run (Err error) old new file file' result = RunsNothing error old new file file' result

-- an image is run on a board, and its last state goes to its file
pub record RunsOn (image : Result (List Segment) LoadError) (board : Result Described BoardError) (run : RunOptions)
    (old new file file' : Writing) (result : Result FinishedRun Error) : Type 0 where
  pub opened : Result Opened Error
  pub opens : Opens image board opened
  pub runs : RunsFrom run opened old new file file' result
