-- What a reader reports of the bytes that it returned.
use Rattle.std.specs.Prelude.{◌≡◌, ℕ, ◌+◌, ◌<◌, ◌≤◌, Bool, List, [], length, take, Option, Result, Ok, Err}
use Rattle.std.specs.Io.KnownBytes.{Consumes, IsAtEnd, Keeps}

-- what a contract sees of a reader: the bytes that it has left, where they are known; how many calls failed; and
-- whether the next call may wait for input or fail
pub record Reading : Type 0 where
  pub left : Option (List ℕ)
  pub misses : ℕ
  pub may_wait : Bool

-- One call. On Ok, the `given` bytes are now at the front of the room; `given` is 0 only at the end of the input or
-- where there is no room. On Err, no byte was returned, and the count of errors grows by 1.
abbrev pub Received : {E : Type 0} → Reading → Reading → List ℕ → Result ℕ E → Type 0
Received old new room (Ok given) =
    (given ≤ length room) × Consumes old.left new.left (take given room) × (new.misses ≡ old.misses)
    × (given ≡ 0 → 0 < length room → IsAtEnd new.left)
Received old new room (Err error) = Keeps old.left new.left × (new.misses ≡ old.misses + 1)

-- One call for an empty buffer. On Ok, the buffer holds the bytes that were returned, none only at the end of the
-- input. On Err, it's still empty.
abbrev pub Fills : {E : Type 0} → Reading → Reading → List ℕ → Result (Unit {0}) E → Type 0
Fills old new held (Ok done) =
    Consumes old.left new.left held × (new.misses ≡ old.misses) × (held ≡ [] → IsAtEnd new.left)
Fills old new held (Err error) = Keeps old.left new.left × (new.misses ≡ old.misses + 1) × (held ≡ [])
