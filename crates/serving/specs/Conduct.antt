-- What a protocol makes of one byte, and so of many (profile).
use Rattle.std.specs.Prelude.{ℕ, Bool, if◌then◌else◌, List, [], ◌∷◌, ◌++◌}
use Rattle.serving.specs.Pieces.{Piece, last_state}
use Rattle.serving.specs.Sessions.{Course}
use Rattle.reference.specs.State.{State}

-- what a protocol does, which keeps an A beside the machine
pub record Conduct (A : Type 0) : Type 0 where
  -- whether it reads on
  pub is_open : A → Bool
  -- the pieces that a byte makes, in a state of the machine
  pub answered : A → State → ℕ → List Piece
  -- what is kept after the byte
  pub kept : A → State → ℕ → A
  -- the pieces at the end of the input
  pub at_end : A → State → List Piece

-- a session between two bytes
pub record SessionState (A : Type 0) : Type 0 where
  pub kept : A
  pub state : State

-- after a byte the machine is in the state of the last piece
abbrev pub next : {A : Type 0} → Conduct A → SessionState A → ℕ → SessionState A
next c t byte = record {
  kept = c.kept t.kept t.state byte;
  state = last_state t.state (c.answered t.kept t.state byte);
}

-- no byte is read once the session is closed
unfoldable pub after_bytes : {A : Type 0} → Conduct A → SessionState A → List ℕ → SessionState A
after_bytes c t [] = t
after_bytes c t (byte ∷ bytes) = if c.is_open t.kept then after_bytes c (next c t byte) bytes else t

unfoldable pub answers : {A : Type 0} → Conduct A → SessionState A → List ℕ → List Piece
answers c t [] = []
answers c t (byte ∷ bytes) =
    if c.is_open t.kept then c.answered t.kept t.state byte ++ answers c (next c t byte) bytes else []

-- at the end of the input
abbrev pub end_answers : {A : Type 0} → Conduct A → SessionState A → List Piece
end_answers c t = c.at_end t.kept t.state

-- what a session makes of its input from there on
abbrev pub course_of : {A : Type 0} → Conduct A → A → State → Course
course_of c kept s = record {
  answers = λ given. answers c (record { kept = kept; state = s }) given;
  all_answers = λ given. answers c (record { kept = kept; state = s }) given
      ++ end_answers c (after_bytes c (record { kept = kept; state = s }) given);
  is_open = λ given. c.is_open (after_bytes c (record { kept = kept; state = s }) given).kept;
}

-- what a protocol does that keeps a B, by what it makes of a part of that; `after` is what is kept after a byte
abbrev pub lifted : {A B : Type 0} → (B → A) → (B → State → ℕ → B) → Conduct A → Conduct B
lifted part after c = record {
  is_open = λ b. c.is_open (part b);
  answered = λ b s byte. c.answered (part b) s byte;
  kept = after;
  at_end = λ b s. c.at_end (part b) s;
}
