-- A session of the program with GDB.
use Rattle.std.specs.Prelude.{◌≡◌, ◌⊎◌, ℕ, List, Result, Ok, Err}
use Rattle.command.specs.declared.error.Error.{Error}
use Rattle.command.specs.declared.error.Error.TheVariants.{Start}
use Rattle.command.specs.declared.opening.Opened.{Opened}
use Rattle.command.specs.Opening.{Opens}
use Rattle.command.specs.Sessions.{SaysNothing, RanSession, session_status}
use Rattle.devices.specs.declared.device.Device.{Device}
use Rattle.gdb_server.specs.Conduct.{conduct, first}
use Rattle.output.specs.Input.{Reading}
use Rattle.output.specs.Output.{Writing}
use Rattle.platform.specs.declared.error.BoardError.{BoardError}
use Rattle.platform.specs.declared.error.LoadError.{LoadError}
use Rattle.platform.specs.declared.error.StartError.TheVariants.{NoMemory}
use Rattle.platform.specs.Boards.{Described, Numbers, numbers_of}
use Rattle.platform.specs.Images.{Segment}
use Rattle.reference.specs.State.{State}
use Rattle.serving.specs.Conduct.{course_of}
use Rattle.serving.specs.Sessions.{Course}

-- a session with GDB of a machine of a board with these devices, in a state before the first byte; its clock stays
-- within a limit
unfoldable pub gdb_session : Numbers → List Device → ℕ → State → Course
gdb_session board devices limit s = course_of conduct (first limit board devices s) s

-- a session of a machine before its first step; or out of memory for the states to which it can go back
abbrev pub ServesOf : Opened → ℕ → Reading → Reading → Writing → Writing → Result (Unit {0}) Error → Type 0
ServesOf machine limit before after out out' result =
    RanSession (gdb_session (numbers_of machine.layout) machine.devices.items limit machine.machine.state)
    machine.machine
    before after out out' result
    ⊎ SaysNothing (Start NoMemory) before after out out' result

-- a session of a machine before its first step, or a refusal
abbrev pub ServesFrom
    : Result Opened Error → ℕ → Reading → Reading → Writing → Writing → Result (Unit {0}) Error → Type 0
ServesFrom (Ok machine) limit before after out out' result = ServesOf machine limit before after out out' result
ServesFrom (Err error) limit before after out out' result = SaysNothing error before after out out' result

-- an image is debugged by GDB on a board, in at most this many steps, and the status is that of the end
pub record GdbTo (image : Result (List Segment) LoadError) (board : Result Described BoardError) (limit : ℕ)
    (before after : Reading) (out out' : Writing) (status : ℕ) : Type 0 where
  pub opened : Result Opened Error
  pub opens : Opens image board opened
  pub result : Result (Unit {0}) Error
  pub serves : ServesFrom opened limit before after out out' result
  pub is : status ≡ session_status result
