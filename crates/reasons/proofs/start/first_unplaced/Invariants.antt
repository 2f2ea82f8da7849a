use Rattle.std.proofs.Common.{ℕ, ◌<◌}
use Rattle.reasons.specs.Segments.{IsUnplaced, header_at, segment_if}
use Rattle.platform.specs.Boards.{numbers_of}
use Rattle.platform.specs.Boards.{blank}
use Rattle.reasons.proofs.start.first_unplaced.Given as goal

-- all of the segments so far are placed
abbrev pub invariant-headers : goal.invariant-headers
invariant-headers l =
    (k : ℕ) → k < l.index → ¬ IsUnplaced (blank (numbers_of l.layout)) (segment_if l.file (header_at l.table k))
