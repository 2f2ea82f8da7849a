use Rattle.std.proofs.Common.{ℕ, ◌<◌}
use Rattle.reasons.specs.Segments.{SharesWithLater, header_at, segment_if}
use Rattle.reasons.proofs.image.overlap.Given as goal

-- none of the segments so far shares an address with a later one
abbrev pub invariant-headers : goal.invariant-headers
invariant-headers l =
    (k : ℕ) → k < l.index → ¬ SharesWithLater (λ m. segment_if l.file (header_at l.table m)) l.table.count
    (segment_if l.file (header_at l.table k)) k
