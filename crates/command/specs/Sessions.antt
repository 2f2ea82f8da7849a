-- A debug session of the program.
use Rattle.std.specs.Prelude.{◌≡◌, ◌⊎◌, ◌<◌, ℕ, List, [], None, Result, Ok, Err, replicate}
use Rattle.command.specs.declared.error.Error.{Error}
use Rattle.command.specs.declared.error.Error.TheVariants.{Io, Start}
use Rattle.command.specs.declared.opening.Opened.{Opened}
use Rattle.command.specs.Opening.{Opens}
use Rattle.command.specs.Statuses.{error_status}
use Rattle.debugger.specs.Sessions.{session_of}
use Rattle.machine.specs.MachineModel.{MachineModel}
use Rattle.output.specs.Input.{Reading}
use Rattle.output.specs.Output.{Writing}
use Rattle.platform.specs.declared.error.BoardError.{BoardError}
use Rattle.platform.specs.declared.error.LoadError.{LoadError}
use Rattle.platform.specs.declared.error.StartError.TheVariants.{NoMemory}
use Rattle.platform.specs.Boards.{Described, numbers_of}
use Rattle.platform.specs.Images.{Segment}
use Rattle.serving.specs.Sessions.{Course, FailsToRead, FailsToWrite, HoldsSession}

-- a session from there on, with the machine as it is at the end: it ends, or its reader or its writer fails. Nothing
-- waits unless the writer failed
abbrev pub RunsSession : Course → MachineModel → MachineModel → Reading → Reading → Writing → Writing
    → Result (Unit {0}) Error → Type 0
RunsSession t first last before after out out' (Ok done) =
    HoldsSession t first last before after out out' × (out'.waits ≡ [])
RunsSession t first last before after out out' (Err error) =
    (error ≡ Io)
    × ((FailsToRead t first last before after out out' × (out'.waits ≡ []))
    ⊎ FailsToWrite t first last before after out out')

-- a session from there on, whatever the machine is at its end
pub record RanSession (t : Course) (first : MachineModel) (before after : Reading) (out out' : Writing)
    (result : Result (Unit {0}) Error) : Type 0 where
  pub last : MachineModel
  pub runs_session : RunsSession t first last before after out out' result

-- an error, with which nothing is read and nothing is written
abbrev pub SaysNothing : Error → Reading → Reading → Writing → Writing → Result (Unit {0}) Error → Type 0
SaysNothing error before after out out' result = (result ≡ Err error) × (after ≡ before) × (out' ≡ out)

-- a session of a machine before its first step, with slots in which nothing was saved; or out of memory for the slots
abbrev pub RunsSessionOf : Opened → ℕ → Reading → Reading → Writing → Writing → Result (Unit {0}) Error → Type 0
RunsSessionOf machine slots before after out out' result =
    RanSession (session_of (numbers_of machine.layout) (replicate slots None) machine.machine.state) machine.machine
    before after out out' result
    ⊎ (0 < slots) × SaysNothing (Start NoMemory) before after out out' result

-- a session of a machine before its first step, or a refusal
abbrev pub RunsSessionFrom
    : Result Opened Error → ℕ → Reading → Reading → Writing → Writing → Result (Unit {0}) Error → Type 0
RunsSessionFrom (Ok machine) slots before after out out' result = RunsSessionOf machine slots before after out out'
    result
RunsSessionFrom (Err error) slots before after out out' result = SaysNothing error before after out out' result

-- 0 where the session ended, else the status of the error
abbrev pub session_status : Result (Unit {0}) Error → ℕ
session_status (Ok done) = 0
session_status (Err error) = error_status error

-- an image is debugged on a board, with this many slots, and the status is that of the end
pub record SessionTo (image : Result (List Segment) LoadError) (board : Result Described BoardError) (slots : ℕ)
    (before after : Reading) (out out' : Writing) (status : ℕ) : Type 0 where
  pub opened : Result Opened Error
  pub opens : Opens image board opened
  pub result : Result (Unit {0}) Error
  pub runs_session : RunsSessionFrom opened slots before after out out' result
  pub is : status ≡ session_status result
