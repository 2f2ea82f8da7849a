-- The machine of an image on a board before its first step, or why there is none.
use Rattle.std.specs.Prelude.{◌≡◌, ◌⊎◌, ℕ, if◌then◌else◌, false, List, Result, Ok, Err}
use Rattle.std.specs.Str.{is_utf8}
use Rattle.board.specs.declared.board.Board.{Board as TheBoard}
use Rattle.board.specs.Reading.{described}
use Rattle.board.specs.Texts.{board_of}
use Rattle.command.specs.declared.error.Error.{Error}
use Rattle.command.specs.declared.error.Error.TheVariants.{Load, Board, Start}
use Rattle.command.specs.declared.opening.Opened.{Opened}
use Rattle.machine.specs.MachineModel.{MachineModel}
use Rattle.platform.specs.declared.error.BoardError.{BoardError}
use Rattle.platform.specs.declared.error.BoardError.TheVariants.{NotToml, OutOfMemory}
use Rattle.platform.specs.declared.error.LoadError.{LoadError}
use Rattle.platform.specs.declared.error.StartError.{StartError}
use Rattle.platform.specs.declared.error.StartError.TheVariants.{NoMemory}
use Rattle.platform.specs.Boards.{Described, numbers_of}
use Rattle.platform.specs.Images.{Segment}
use Rattle.reference.specs.Start.{start}
use Rattle.reference.specs.State.{State}

-- the board in the bytes of a file, which are text in UTF-8, or the first refusal
abbrev pub board_in_file : List ℕ → Result Described BoardError
board_in_file bytes = if is_utf8 bytes then board_of bytes else Err NotToml

-- a board that was read is the definition's, and so is a refusal, unless it's out of memory
abbrev pub ReadsBoard : Result Described BoardError → Result TheBoard BoardError → Type 0
ReadsBoard read (Ok board) = read ≡ Ok (described board)
ReadsBoard read (Err error) = (read ≡ Err error) ⊎ (error ≡ OutOfMemory)

-- a machine whose writer hasn't failed
abbrev pub whole_of : State → MachineModel
whole_of s = record { state = s; broken = false }

-- the machine of a start state with the numbers and the devices of its board, or out of memory for it; or the refusal
-- of the start
abbrev pub OpensMachine : Described → Result State StartError → Result Opened Error → Type 0
OpensMachine board (Ok s) (Ok opened) =
    (opened.machine ≡ whole_of s) × (numbers_of opened.layout ≡ board.numbers)
    × (opened.devices.items ≡ board.devices)
OpensMachine board (Ok s) (Err error) = error ≡ Start NoMemory
OpensMachine board (Err refusal) (Ok opened) = ⊥
OpensMachine board (Err refusal) (Err error) = error ≡ Start refusal

-- an image or a board that is refused is refused as the definition refuses it, the image first; out of memory for
-- the board may take the place of every later refusal
abbrev pub Opens : Result (List Segment) LoadError → Result Described BoardError → Result Opened Error → Type 0
Opens (Ok image) (Ok board) result =
    OpensMachine board (start board image) result ⊎ (result ≡ Err (Board OutOfMemory))
Opens (Ok image) (Err refusal) result = (result ≡ Err (Board refusal)) ⊎ (result ≡ Err (Board OutOfMemory))
Opens (Err refusal) board result = result ≡ Err (Load refusal)
