-- What a writer reports of the bytes that it received.
use Rattle.std.specs.Prelude.{◌≡◌, ℕ, ◌+◌, ◌≤◌, Bool, not, ◌&&◌, ◌==◌, List, [], ◌∷◌, ◌++◌, length, take, Option}
use Rattle.std.specs.Prelude.{Result, Ok, Err, if◌then◌else◌}
use Rattle.std.specs.Io.KnownBytes.{Appends, Keeps, append_known}

-- what a contract sees of a writer: the bytes that it has taken, where they are known; how many calls failed or took 0
-- bytes of a nonempty piece; and which of the bytes wait to be sent
pub record Writing : Type 0 where
  pub written : Option (List ℕ)
  pub errors : ℕ
  pub waits : List ℕ

-- a writer with the bytes of a page after those that it took, which count as taken and wait
abbrev pub with_page : List ℕ → Writing → Writing
with_page page w = record w { written = append_known w.written page; waits = w.waits ++ page }

-- the known bytes grow by `before`, followed by `front`, a proper prefix of `text`
pub record IsCutAfter (old new : Option (List ℕ)) (before text : List ℕ) : Type 0 where
  pub front : List ℕ
  pub byte : ℕ
  pub later : List ℕ
  pub whole : text ≡ front ++ byte ∷ later
  pub went : Appends old new (before ++ front)

-- the same with nothing before it
abbrev pub IsCutShort : Option (List ℕ) → Option (List ℕ) → List ℕ → Type 0
IsCutShort old new text = IsCutAfter old new [] text

-- whether a call took none of a piece that isn't empty
abbrev pub took_none : List ℕ → ℕ → Bool
took_none bytes taken = (taken == 0) && not (length bytes == 0)

-- one call: the bytes that it took went out; it counts as failed where it failed or took none
abbrev pub Took : {E : Type 0} → Writing → Writing → List ℕ → Result ℕ E → Type 0
Took old new bytes (Ok taken) =
    (taken ≤ length bytes) × Appends old.written new.written (take taken bytes)
    × (new.errors ≡ (if took_none bytes taken then old.errors + 1 else old.errors))
Took old new bytes (Err error) = Keeps old.written new.written × (new.errors ≡ old.errors + 1)

-- a whole text went out, and no call failed
abbrev pub WritesAll : Writing → Writing → List ℕ → Type 0
WritesAll old new text = Appends old.written new.written text × (new.errors ≡ old.errors)

-- a whole text went out and no call failed, or a proper prefix of it did and one call failed
abbrev pub Put : {E : Type 0} → Writing → Writing → List ℕ → Result (Unit {0}) E → Type 0
Put old new text (Ok done) = WritesAll old new text
Put old new text (Err error) = IsCutShort old.written new.written text × (new.errors ≡ old.errors + 1)

-- The bytes that waited were sent, and no call failed; or a call failed. Which bytes were put stays the same.
abbrev pub FlushesAll : {E : Type 0} → Writing → Writing → Result (Unit {0}) E → Type 0
FlushesAll old new (Ok done) = Keeps old.written new.written × (new.errors ≡ old.errors) × (new.waits ≡ [])
FlushesAll old new (Err error) = Keeps old.written new.written × (new.errors ≡ old.errors + 1)

-- known bytes grew by a prefix of a text
pub record GrowsByPrefix (old new : Option (List ℕ)) (text : List ℕ) : Type 0 where
  pub front : List ℕ
  pub later : List ℕ
  pub whole : text ≡ front ++ later
  pub grew : Appends old new front
