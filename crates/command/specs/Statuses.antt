-- The exit statuses of the program.
use Rattle.std.specs.Prelude.{◌*◌, ◌^◌, ℕ, Bool, if◌then◌else◌, Option, Some, None, Result, Ok, Err}
use Rattle.std.specs.Str.{bytes_eq}
use Rattle.command.specs.declared.error.Error.{Error}
use Rattle.command.specs.declared.error.Error.TheVariants.{Usage, Load, Board, Start, Size, Io}
use Rattle.command.specs.declared.files.FileError.{FileError}
use Rattle.command.specs.declared.files.FileError.TheVariants as file
use Rattle.command.specs.declared.running.FinishedRun.{FinishedRun}
use Rattle.platform.specs.declared.stop.Stop.{Stop}
use Rattle.platform.specs.declared.stop.Stop.TheVariants as stop
use Rattle.platform.specs.Text.{stop_text}

abbrev pub error_status : Error → ℕ
error_status Usage = 2
error_status (Load error) = 3
error_status (Board error) = 3
error_status (Start error) = 3
error_status Size = 3
error_status Io = 5

abbrev pub stop_status : Stop → ℕ
stop_status stop.StepLimit = 0
stop_status (stop.Breakpoint number) = 0
stop_status stop.Lockup = 4
stop_status (stop.Unpredictable why) = 4
stop_status (stop.OutOfProfile why) = 4
stop_status stop.ResetRequested = 4

-- 0 at the stop that is expected, else 1; without an expectation the status of the stop
abbrev pub ending_status : Option Stop → Stop → ℕ
ending_status None why = stop_status why
ending_status (Some expected) why = if bytes_eq (stop_text why) (stop_text expected) then 0 else 1

-- the status of a stop or of an error
abbrev pub status_of : Option Stop → Result Stop Error → ℕ
status_of expected (Ok why) = ending_status expected why
status_of expected (Err error) = error_status error

-- the status of a run after which the dumps were all written or not
abbrev pub run_status : Option Stop → Result FinishedRun Error → Bool → ℕ
run_status expected (Ok ran) done = if done then ending_status expected ran.stop else error_status Io
run_status expected (Err error) done = error_status error

-- the status of a file that isn't read
abbrev pub file_status : FileError → ℕ
file_status file.Size = 3
file_status (file.Read error) = 5

-- the most bytes of a file: 16 MiB
abbrev pub max_bytes : ℕ
max_bytes = 16 * 2 ^ 20
