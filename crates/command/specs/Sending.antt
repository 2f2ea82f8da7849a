-- What becomes of a text that a writer is to send whole.
use Rattle.std.specs.Prelude.{◌≡◌, ◌+◌, ℕ, List, [], Result, Ok, Err}
use Rattle.std.specs.Io.KnownBytes.{Appends}
use Rattle.output.specs.Output.{GrowsByPrefix, Writing}

-- the whole text went out, nothing waits, and no call failed
abbrev pub SendsAll : List ℕ → Writing → Writing → Type 0
SendsAll text old new = Appends old.written new.written text × (new.waits ≡ []) × (new.errors ≡ old.errors)

-- one call failed, and what was put is a prefix of the text
abbrev pub IsCut : List ℕ → Writing → Writing → Type 0
IsCut text old new = GrowsByPrefix old.written new.written text × (new.errors ≡ old.errors + 1)

-- a text is sent: all of it went out, or a call failed
abbrev pub Sends : {E : Type 0} → List ℕ → Writing → Writing → Result (Unit {0}) E → Type 0
Sends text old new (Ok done) = SendsAll text old new
Sends text old new (Err error) = IsCut text old new
