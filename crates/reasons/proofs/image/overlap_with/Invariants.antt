use Rattle.std.proofs.Common.{ℕ, ◌<◌}
use Rattle.elf.specs.Segment.{segment_of}
use Rattle.reasons.specs.Segments.{SharesLater, header_at, segment_if}
use Rattle.reasons.proofs.image.overlap_with.Given as goal

-- none of the later segments so far shares an address
abbrev pub invariant-headers : goal.invariant-headers
invariant-headers l =
    (k : ℕ) → k < l.index → ¬ SharesLater (λ m. segment_if l.file (header_at l.table m)) (segment_of l.one.segment)
    l.one.index k
