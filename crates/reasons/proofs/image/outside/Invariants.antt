use Rattle.std.proofs.Common.{◌≡◌, ℕ, ◌<◌, true}
use Rattle.reasons.specs.Segments.{header_at, lies_outside}
use Rattle.reasons.proofs.image.outside.Given as goal

-- none of the segments so far lies outside the file
abbrev pub invariant-headers : goal.invariant-headers
invariant-headers l = (k : ℕ) → k < l.index → ¬ (lies_outside l.file (header_at l.table k) ≡ true)
