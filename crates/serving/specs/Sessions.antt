-- A session: the bytes that it reads, one after another, and the pieces of text that it writes (profile).
use Rattle.std.specs.Prelude.{◌≡◌, ◌⊎◌, ℕ, ◌+◌, ◌-◌, ◌^◌, Bool, true, false, List, [], ◌∷◌, length}
use Rattle.std.specs.Prelude.{Option, Some, None, Result, Ok, Err}
use Rattle.std.specs.Io.KnownBytes.{Consumes, IsAtEnd, Keeps}
use Rattle.serving.specs.declared.sessions.SessionError.{SessionError}
use Rattle.serving.specs.declared.sessions.SessionError.TheVariants.{Read, Write}
use Rattle.serving.specs.Pieces.{Piece, DeliversAll, DeliversAllThenFails, DeliversPart}
use Rattle.target.specs.MachineModel.{MachineModel}
use Rattle.output.specs.Input.{Reading}
use Rattle.output.specs.Output.{Writing}

-- what a session makes of its input
pub record Course : Type 0 where
  -- the pieces that some bytes make
  pub answers : List ℕ → List Piece
  -- those of an input that ends after them
  pub all_answers : List ℕ → List Piece
  -- whether the session reads on after them
  pub is_open : List ℕ → Bool

-- ---- reading and sending

-- the bytes that a session read are those that the reader returned, and no call of it failed
pub record ReadsBytes (given : List ℕ) (before after : Reading) : Type 0 where
  pub gave : Consumes before.left after.left given
  pub quiet : after.misses ≡ before.misses

-- one byte, or the end of the input; or a call that failed
abbrev pub GivesNext : Reading → Reading → Option ℕ → Type 0
GivesNext before after (Some byte) = ReadsBytes (byte ∷ []) before after
GivesNext before after None = ReadsBytes [] before after × IsAtEnd after.left

abbrev pub GivesByte : {E : Type 0} → Reading → Reading → Result (Option ℕ) E → Type 0
GivesByte before after (Ok next) = GivesNext before after next
GivesByte before after (Err error) = Keeps before.left after.left × (after.misses ≡ before.misses + 1)

-- what was put stays the same, and no call of the writer failed; or one did
abbrev pub KeepsPut : Writing → Writing → Type 0
KeepsPut before after = Keeps before.written after.written × (after.errors ≡ before.errors)

abbrev pub FailsOnce : Writing → Writing → Type 0
FailsOnce before after = Keeps before.written after.written × (after.errors ≡ before.errors + 1)

-- what waits is sent before a call of the reader that may wait
abbrev pub SendsBefore : {E : Type 0} → Reading → Writing → Writing → Result (Unit {0}) E → Type 0
SendsBefore before out out' (Ok done) = KeepsPut out out' × (before.may_wait ≡ true → out'.waits ≡ [])
SendsBefore before out out' (Err error) = FailsOnce out out'

-- One byte, or the end of the input. What waits to be sent is sent before a call of the reader that may wait, so that
-- nothing waits where that call fails; where it can't be sent, the reader isn't called.
abbrev pub TakesNext : Reading → Reading → Writing → Writing → Result (Option ℕ) SessionError → Type 0
TakesNext before after out out' (Ok next) = GivesNext before after next × KeepsPut out out'
TakesNext before after out out' (Err Read) =
    Keeps before.left after.left × (after.misses ≡ before.misses + 1) × KeepsPut out out' × (out'.waits ≡ [])
TakesNext before after out out' (Err Write) = (after ≡ before) × FailsOnce out out'

-- what waits is sent before a session ends
abbrev pub SendsRest : Writing → Writing → Result (Unit {0}) SessionError → Type 0
SendsRest out out' (Ok done) = KeepsPut out out' × (out'.waits ≡ [])
SendsRest out out' (Err Read) = ⊥
SendsRest out out' (Err Write) = FailsOnce out out'

-- nothing waits to be sent after a session, unless its writer failed
abbrev pub NothingWaits : Writing → Result (Unit {0}) SessionError → Type 0
NothingWaits out (Ok done) = out.waits ≡ []
NothingWaits out (Err Read) = out.waits ≡ []
NothingWaits out (Err Write) = Unit {0}

-- ---- a whole session

-- why a session ends with no error: the input is at its end; the session doesn't read on; or 2^64 - 1 bytes
abbrev pub Ends : Course → List ℕ → Reading → List Piece → Type 0
Ends t given after pieces =
    (IsAtEnd after.left × (pieces ≡ t.all_answers given))
    ⊎ ((t.is_open given ≡ false) × (pieces ≡ t.answers given)
    ⊎ (length given ≡ 2 ^ 64 - 1) × (pieces ≡ t.answers given))

-- the whole session: the answers to what was read went out
pub record HoldsSession (t : Course) (old new : MachineModel) (before after : Reading) (out out' : Writing) : Type 0
  where
    pub given : List ℕ
    pub given_read : ReadsBytes given before after
    pub pieces : List Piece
    pub ends : Ends t given after pieces
    pub delivers : DeliversAll pieces old new out out'

-- the reader failed: what it returned before was read, and is answered
pub record FailsToRead (t : Course) (old new : MachineModel) (before after : Reading) (out out' : Writing) : Type 0
  where
    pub given : List ℕ
    pub gave : Consumes before.left after.left given
    pub missed : after.misses ≡ before.misses + 1
    pub delivers : DeliversAll (t.answers given) old new out out'

-- the pieces so far: the answers to what was read, with those at the end of the input where it is there
abbrev pub AreSoFar : Course → List ℕ → Reading → List Piece → Type 0
AreSoFar t given after pieces =
    (pieces ≡ t.answers given) ⊎ (IsAtEnd after.left × (pieces ≡ t.all_answers given))

-- the answers to what was read were put, and the call failed that was to send those that wait
pub record FailsToFlush (t : Course) (given : List ℕ) (old new : MachineModel) (after : Reading) (out out' : Writing)
    : Type 0 where
  pub pieces : List Piece
  pub so_far : AreSoFar t given after pieces
  pub delivers : DeliversAllThenFails pieces old new out out'

-- the writer failed in the answers to what was read, or after all of them
pub record FailsToWrite (t : Course) (old new : MachineModel) (before after : Reading) (out out' : Writing) : Type 0
  where
    pub given : List ℕ
    pub given_read : ReadsBytes given before after
    pub delivers : DeliversPart (t.all_answers given) old new out out' ⊎ FailsToFlush t given old new after out out'

-- a session from there on
abbrev pub Sessions
    : Course → MachineModel → MachineModel → Reading → Reading → Writing → Writing → Result (Unit {0}) SessionError
    → Type 0
Sessions t old new before after out out' (Ok done) = HoldsSession t old new before after out out'
Sessions t old new before after out out' (Err Read) = FailsToRead t old new before after out out'
Sessions t old new before after out out' (Err Write) = FailsToWrite t old new before after out out'
