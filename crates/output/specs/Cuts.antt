-- A writer or a reader that is cut after a number of bytes.
use Rattle.std.specs.Prelude.{◌≡◌, ℕ, ◌+◌, true, List, take, Option, option_map, Result, Ok, Err}
use Rattle.output.specs.declared.cut.AtCut.{AtCut}
use Rattle.output.specs.declared.cut.AtCut.TheVariants.{Fails, TakesNone}
use Rattle.output.specs.Input.{Reading}
use Rattle.output.specs.Output.{Writing}

-- one call: the number of bytes to pass on falls by those of the call
abbrev pub CountsCall : {E : Type 0} → ℕ → ℕ → Result ℕ E → Type 0
CountsCall old new (Ok passed) = old ≡ new + passed
CountsCall old new (Err error) = new ≡ old

-- a call after the last byte: it fails, or takes none
abbrev pub EndsAtCut : {E : Type 0} → AtCut → Result ℕ E → Type 0
EndsAtCut Fails (Ok passed) = ⊥
EndsAtCut Fails (Err error) = Unit {0}
EndsAtCut TakesNone (Ok passed) = passed ≡ 0
EndsAtCut TakesNone (Err error) = ⊥

-- the bytes that a reader has left: those of the reader below; where it then returns none, only as many of them as it
-- passes on
abbrev pub left_of : AtCut → ℕ → Option (List ℕ) → Option (List ℕ)
left_of Fails left known = known
left_of TakesNone left known = option_map (λ xs. take left xs) known

-- a writer of which that many calls more failed
abbrev pub with_errors : ℕ → Writing → Writing
with_errors failed w = record w { errors = w.errors + failed }

-- a reader of which that many calls more failed. Each of its calls may fail
abbrev pub with_misses : ℕ → Reading → Reading
with_misses failed r = record r { misses = r.misses + failed; may_wait = true }

-- a reader that is cut off after that many bytes, and of which that many calls failed then
abbrev pub cut_off : AtCut → ℕ → ℕ → Reading → Reading
cut_off at_cut left failed r = record (with_misses failed r) { left = left_of at_cut left r.left }
