-- Pieces of text, each with the state of the machine by the time that it is written (profile).
use Rattle.std.specs.Prelude.{◌≡◌, ℕ, ◌+◌, List, [], ◌∷◌, ◌++◌, Result, Ok, Err}
use Rattle.std.specs.Io.KnownBytes.{Appends}
use Rattle.target.specs.MachineModel.{MachineModel}
use Rattle.output.specs.Output.{IsCutAfter, Writing}
use Rattle.reference.specs.State.{State}

-- a text that is written at once, and the state of the machine by then
pub record Piece : Type 0 where
  pub state : State
  pub text : List ℕ

-- the text of all pieces
abbrev pub texts : List Piece → List ℕ
texts [] = []
texts (p ∷ ps) = p.text ++ texts ps

-- the state by the end of the last piece
abbrev pub last_state : State → List Piece → State
last_state s [] = s
last_state s (p ∷ ps) = last_state p.state ps

-- ---- what of the pieces went out

-- all pieces went out, and the machine is in the state of the last one
pub record DeliversAll (pieces : List Piece) (old new : MachineModel) (before after : Writing) : Type 0 where
  pub went : Appends before.written after.written (texts pieces)
  pub stands : new ≡ record old { state = last_state old.state pieces }
  pub quiet : after.errors ≡ before.errors

-- a call failed in one of the pieces: those before it went out, and a prefix of it, and the machine is in its state
pub record DeliversPart (pieces : List Piece) (old new : MachineModel) (before after : Writing) : Type 0 where
  pub done : List Piece
  pub piece : Piece
  pub others : List Piece
  pub among : pieces ≡ done ++ piece ∷ others
  pub stands : new ≡ record old { state = piece.state }
  pub cut : IsCutAfter before.written after.written (texts done) piece.text
  pub failed : after.errors ≡ before.errors + 1

-- all pieces were put, and a call failed after them; the machine is in the state of the last one
pub record DeliversAllThenFails (pieces : List Piece) (old new : MachineModel) (before after : Writing) : Type 0 where
  pub put : Appends before.written after.written (texts pieces)
  pub stands : new ≡ record old { state = last_state old.state pieces }
  pub failed : after.errors ≡ before.errors + 1

abbrev pub Delivers : {A E : Type 0} → List Piece → MachineModel → MachineModel → Writing → Writing → Result A E
    → Type 0
Delivers pieces old new before after (Ok done) = DeliversAll pieces old new before after
Delivers pieces old new before after (Err error) = DeliversPart pieces old new before after
