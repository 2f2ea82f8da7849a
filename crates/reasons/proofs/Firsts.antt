-- The first program header of which a fact holds.
use Rattle.std.proofs.Common.{◌≡◌, ℕ, ◌+◌, ◌<◌, ◌≤◌, Bool, true, false, Option, Some, arith, below_more}
use Rattle.platform.specs.Images.{Segment}
use Rattle.reasons.specs.declared.header.NumberedSegment.{NumberedSegment}
use Rattle.reasons.specs.Segments.{IsFirstSegmentWith, IsFirstPair, Picks, PicksPair, SharesWithLater}

pub not_true : (b : Bool) → b ≡ false → ¬ (b ≡ true)
not_true b off on = cc

-- it holds of one more of none
pub none_more : (holds : ℕ → Type 0) (n : ℕ) → ((k : ℕ) → k < n → ¬ holds k) → ¬ holds n
    → (k : ℕ) → k < n + 1 → ¬ holds k
none_more holds n none more = below_more (λ k. ¬ holds k) n none more

-- it holds of one, and of none before
pub first_found : (at : ℕ → Option Segment) (holds : ℕ → Type 0) (count index : ℕ) (numbered : NumberedSegment)
    → index < count → ((k : ℕ) → k < index → ¬ holds k) → Picks at (holds index) index (Some numbered)
    → IsFirstSegmentWith at holds count (Some numbered)
first_found at holds count index numbered below none picks =
    rw picks.0 (picks.1, (below, picks.2, none))

-- it holds of none of all
pub none_of_all : (holds : ℕ → Type 0) (count n : ℕ) → count ≤ n → ((k : ℕ) → k < n → ¬ holds k)
    → (k : ℕ) → k < count → ¬ holds k
none_of_all holds count n all none k below = none k (omega (arith, below, all))

-- the first pair
pub pair_found : (at : ℕ → Option Segment) (count index : ℕ) (pair : NumberedSegment × NumberedSegment) → index < count
    → ((k : ℕ) → k < index → ¬ SharesWithLater at count (at k) k) → PicksPair at count index (Some pair)
    → IsFirstPair at count (Some pair)
pair_found at count index pair below none picks =
    rw picks.0 (
      picks.1,
      (below, rw picks.1 ((pair.1).index, picks.2.1.0, picks.2.1.1), none),
      picks.2,
    )
