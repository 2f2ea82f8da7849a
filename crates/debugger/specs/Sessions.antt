-- A session: the bytes that it reads, one after another, and its answers (profile).
use Rattle.std.specs.Prelude.{ℕ, Bool, true, not, ◌==◌, if◌then◌else◌, List, [], length, Option, Some, Result}
use Rattle.debugger.specs.Answers.{answer, saved_after}
use Rattle.debugger_commands.specs.declared.commands.Command.{Command}
use Rattle.debugger_commands.specs.declared.commands.LineError.{LineError}
use Rattle.debugger_commands.specs.Commands.{change_of, command_in, quits}
use Rattle.debugger_commands.specs.Settings.{Settings, opened_settings, settings_after}
use Rattle.debugger_commands.specs.Words.{is_empty, with_byte}
use Rattle.platform.specs.Boards.{Numbers}
use Rattle.reference.specs.State.{State}
use Rattle.serving.specs.Conduct.{Conduct, SessionState, course_of}
use Rattle.serving.specs.Pieces.{Piece, last_state}
use Rattle.serving.specs.Sessions.{Course}

-- ---- a session between two bytes

-- what is kept beside the machine
pub record SessionData : Type 0 where
  pub settings : Settings
  -- the line so far, None where it's too long
  pub line : Option (List ℕ)
  -- for each slot the state that was saved there last, if one was
  pub saved : List (Option State)
  -- whether no `quit` was read
  pub is_open : Bool

-- before the first byte of a session of a machine of a board, with these saved states
abbrev pub opened : Numbers → List (Option State) → SessionData
opened board saved = record {
  settings = opened_settings board (length saved);
  line = Some [];
  saved = saved;
  is_open = true;
}

-- the command of the line
abbrev pub line_asked : SessionData → Result Command LineError
line_asked k = command_in k.settings.slots k.line

-- the answer to the line
abbrev pub line_answered : SessionData → State → List Piece
line_answered k s = answer s k.settings k.saved (line_asked k)

-- after the answer to a command
abbrev pub kept_after : SessionData → State → Result Command LineError → SessionData
kept_after k s asked =
    record k { settings = settings_after k.settings asked; saved = saved_after s k.saved (change_of asked) }

abbrev pub after_command : SessionState SessionData → Result Command LineError → SessionState SessionData
after_command t asked = record {
  kept = kept_after t.kept t.state asked;
  state = last_state t.state (answer t.state t.kept.settings t.kept.saved asked);
}

-- after the answer to the line
abbrev pub after_line : SessionData → State → SessionData
after_line k s = record (kept_after k s (line_asked k)) { line = Some []; is_open = not (quits (line_asked k)) }

abbrev pub is_line_feed : ℕ → Bool
is_line_feed byte = byte == 10

-- a line feed ends the line, which is answered
abbrev pub answered : SessionData → State → ℕ → List Piece
answered k s byte = if is_line_feed byte then line_answered k s else []

abbrev pub next : SessionData → State → ℕ → SessionData
next k s byte = if is_line_feed byte then after_line k s else record k { line = with_byte k.line byte }

-- at the end of the input a last line without a line feed counts, if it has a byte
abbrev pub answered_at_end : SessionData → State → List Piece
answered_at_end k s = if is_empty k.line then [] else line_answered k s

-- ---- all bytes; none is read after `quit`

abbrev pub debugging : Conduct SessionData
debugging = record {
  is_open = λ k. k.is_open;
  answered = answered;
  kept = next;
  at_end = answered_at_end;
}

-- a session of a machine of a board in a state before the first byte, with these saved states
unfoldable pub session_of : Numbers → List (Option State) → State → Course
session_of board saved s = course_of debugging (opened board saved) s
