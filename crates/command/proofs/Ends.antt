-- What a run that failed put, and how files are read.
use Rattle.std.proofs.Common.{◌≡◌, ◌⊎◌, inl, inr, ℕ, ◌+◌, Bool, true, false, List, Result, Ok, Err, refl, sym}
use Rattle.std.proofs.Common.{◌∙◌}
use Rattle.std.specs.Str.{IsUtf8, is_utf8}
use Rattle.std.proofs.lemmas.Str.{IsUtf8-from_is_utf8, is_utf8-from_IsUtf8}
use Rattle.board.specs.declared.board.Board.{Board as TheBoard}
use Rattle.board.specs.Reading.{Answers, described}
use Rattle.board.specs.Texts.{board_of}
use Rattle.command.specs.Opening.{ReadsBoard, board_in_file}
use Rattle.machine.proofs.Selecting.{selected_left_prefix}
use Rattle.machine.specs.declared.machine.RunError.{RunError}
use Rattle.machine.specs.declared.machine.RunError.TheVariants.{Write, Broken}
use Rattle.machine.specs.Selected.{SelectedFails}
use Rattle.machine.specs.MachineModel.{MachineModel}
use Rattle.output.specs.Output.{GrowsByPrefix, Writing}
use Rattle.platform.specs.declared.error.BoardError.{BoardError}
use Rattle.platform.specs.declared.error.BoardError.TheVariants.{NotToml, OutOfMemory}
use Rattle.platform.specs.Boards.{Described}
use Rattle.trace.specs.declared.selection.TraceSelection.{TraceSelection}
use Rattle.trace.specs.Selection.{selected_trace}

-- a run that failed in a machine whose writers hadn't failed before put a prefix of its text
pub failed_cut : (selection : TraceSelection) (n : ℕ) (old new : MachineModel) (out out' : Writing) (error : RunError)
    → SelectedFails selection n old new out out' error → (error ≡ Broken → old.broken ≡ true) → old.broken ≡ false
    → GrowsByPrefix out.written out'.written (selected_trace selection n old.state) × (out'.errors ≡ out.errors + 1)
failed_cut selection n old new out out' (Write steps) fails broken whole =
    (selected_left_prefix selection n old.state steps out out' new.state fails.0, fails.2)
failed_cut selection n old new out out' Broken fails broken whole =
    absurd (let wrong : true ≡ false = sym (broken refl) ∙ whole in cc)

-- what the reader of boards answers is what is read here
pub read_as : (read : Result Described BoardError) (result : Result TheBoard BoardError)
    → Answers described result read ⊎ (result ≡ Err OutOfMemory) → ReadsBoard read result
read_as read (Ok board) (inl same) = same
read_as read (Ok board) (inr wanting) = absurd cc
read_as read (Err error) (inl (inl same)) = inl same
read_as read (Err error) (inl (inr wanting)) = inr wanting.0
read_as read (Err error) (inr wanting) = inr cc

-- bytes that are text are read as that text
pub text_read : (bytes text : List ℕ) (result : Result TheBoard BoardError) → IsUtf8 bytes → text ≡ bytes
    → Answers described result (board_of text) ⊎ (result ≡ Err OutOfMemory) → ReadsBoard (board_in_file bytes) result
text_read bytes text result is_text same answers =
    rw (is_utf8-from_IsUtf8 bytes is_text) (read_as (board_of bytes) result (rw same at answers))

non_utf8_argument : (bytes : List ℕ) (test : Bool) → is_utf8 bytes ≡ test → ¬ IsUtf8 bytes → board_in_file bytes
    ≡ Err NotToml
non_utf8_argument bytes true e other = absurd (other (IsUtf8-from_is_utf8 bytes e))
non_utf8_argument bytes false e other = rw e refl

-- other bytes aren't
pub bytes_refused : (bytes : List ℕ) (error : BoardError) → ¬ IsUtf8 bytes → error ≡ NotToml
    → ReadsBoard (board_in_file bytes) (Err error)
bytes_refused bytes error other same = rw same (inl (non_utf8_argument bytes (is_utf8 bytes) refl other))
