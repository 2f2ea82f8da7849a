use Rattle.std.proofs.Common.{◌≡◌, map, length}
use Rattle.platform.specs.Images.{have_overlap}
use Rattle.elf.specs.Segment.{segment_of}
use Rattle.elf.proofs.overlap.have_overlap.Given as goal

-- some segment of the list shares an address with a later one just where one of those that are left does
abbrev pub invariant-segments : goal.invariant-segments
invariant-segments l = have_overlap (map segment_of l.rest) ≡ have_overlap (map segment_of l.segments)

abbrev pub decreases-segments : goal.decreases-segments
decreases-segments l = length l.rest
