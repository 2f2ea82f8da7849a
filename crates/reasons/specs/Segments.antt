-- Which program header of an image a message names.
use Rattle.std.specs.Prelude.{◌≡◌, ℕ, ◌+◌, ◌*◌, ◌<◌, Bool, true, false, ◌&&◌, nat_lt, if◌then◌else◌, List, length}
use Rattle.std.specs.Prelude.{Option, Some, None, Result, Ok, Err}
use Rattle.elf.specs.Segment.{segment_in, segment_of}
use Rattle.platform.specs.declared.error.LoadError.{LoadError}
use Rattle.platform.specs.Images.{Segment, is_segment, program_header_size, segment_end, share_an_address}
use Rattle.platform.specs.Memory.{Memory}
use Rattle.platform.specs.Images.{is_placed}
use Rattle.reasons.specs.declared.header.HeaderTable.{HeaderTable}
use Rattle.reasons.specs.declared.header.NumberedSegment.{NumberedSegment}

-- the place of a program header in the file
abbrev pub header_at : HeaderTable → ℕ → ℕ
header_at table index = table.place + program_header_size * index

-- the program header at a place is of a segment whose bytes don't lie in the file
abbrev pub lies_outside : List ℕ → ℕ → Bool
lies_outside file place = is_segment file place && nat_lt (length file) (segment_end file place)

-- the segment of a program header whose bytes lie in the file
abbrev pub if_within : Result Segment LoadError → Option Segment
if_within (Ok segment) = Some segment
if_within (Err error) = None

-- the segment of the program header at a place, if it is of one that lies in the file
abbrev pub segment_if : List ℕ → ℕ → Option Segment
segment_if file place = if is_segment file place then if_within (segment_in file place) else None

-- there is a segment, and it is neither wholly in flash nor wholly in a RAM
abbrev pub IsUnplaced : Memory → Option Segment → Type 0
IsUnplaced m None = ⊥
IsUnplaced m (Some segment) = is_placed m segment ≡ false

-- there is a segment, and it shares an address with another one
abbrev pub SharesWith : Segment → Option Segment → Type 0
SharesWith one None = ⊥
SharesWith one (Some other) = share_an_address one other ≡ true

-- a numbered segment is the one at an index, if there is one
abbrev pub IsAt : ℕ → Option Segment → Option NumberedSegment → Type 0
IsAt index None None = Unit {0}
IsAt index None (Some numbered) = ⊥
IsAt index (Some segment) None = ⊥
IsAt index (Some segment) (Some numbered) = (numbered.index ≡ index) × (segment_of numbered.segment ≡ segment)

-- an index is the first one, of those below a count, of which a fact holds; or it holds of none of them
abbrev pub IsFirst : (ℕ → Type 0) → ℕ → Option ℕ → Type 0
IsFirst holds count (Some index) = (index < count) × holds index × ((k : ℕ) → k < index → ¬ holds k)
IsFirst holds count None = (k : ℕ) → k < count → ¬ holds k

-- the segment at an index is picked, as a fact holds of it; or the fact doesn't hold
abbrev pub Picks : (ℕ → Option Segment) → Type 0 → ℕ → Option NumberedSegment → Type 0
Picks at fact index (Some numbered) =
    (numbered.index ≡ index) × (at index ≡ Some (segment_of numbered.segment)) × fact
Picks at fact index None = ¬ fact

-- a numbered segment is the first one of which a fact holds; or it holds of none of them
abbrev pub IsFirstSegmentWith : (ℕ → Option Segment) → (ℕ → Type 0) → ℕ → Option NumberedSegment → Type 0
IsFirstSegmentWith at holds count (Some numbered) =
    (at numbered.index ≡ Some (segment_of numbered.segment)) × IsFirst holds count (Some numbered.index)
IsFirstSegmentWith at holds count None = IsFirst holds count None

-- the segment of a program header shares an address with that of a later one
abbrev pub SharesLater : (ℕ → Option Segment) → Segment → ℕ → ℕ → Type 0
SharesLater at one index later = (index < later) × SharesWith one (at later)

-- the segment of a program header shares an address with that of one of the later ones
abbrev pub SharesWithLater : (ℕ → Option Segment) → ℕ → Option Segment → ℕ → Type 0
SharesWithLater at count None index = ⊥
SharesWithLater at count (Some one) index = (later : ℕ) × (later < count) × SharesLater at one index later

-- a segment at an index is picked, and the first one after it that shares an address with it; or there is none
abbrev pub PicksPair : (ℕ → Option Segment) → ℕ → ℕ → Option (NumberedSegment × NumberedSegment) → Type 0
PicksPair at count index (Some pair) =
    (pair.0.index ≡ index) × (at index ≡ Some (segment_of pair.0.segment))
    × IsFirstSegmentWith at (SharesLater at (segment_of pair.0.segment) index) count (Some pair.1)
PicksPair at count index None = ¬ SharesWithLater at count (at index) index

-- the first segment that shares an address with a later one, and the first of those; or no two share an address
abbrev pub IsFirstPair : (ℕ → Option Segment) → ℕ → Option (NumberedSegment × NumberedSegment) → Type 0
IsFirstPair at count (Some pair) =
    (at pair.0.index ≡ Some (segment_of pair.0.segment))
    × IsFirst (λ k. SharesWithLater at count (at k) k) count (Some pair.0.index)
    × IsFirstSegmentWith at (SharesLater at (segment_of pair.0.segment) pair.0.index) count (Some pair.1)
IsFirstPair at count None = IsFirst (λ k. SharesWithLater at count (at k) k) count None
