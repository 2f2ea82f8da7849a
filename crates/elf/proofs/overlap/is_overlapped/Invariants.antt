use Rattle.std.proofs.Common.{◌≡◌, map, drop}
use Rattle.std.specs.List.{list_any}
use Rattle.platform.specs.Images.{share_an_address}
use Rattle.elf.specs.Segment.{segment_of}
use Rattle.elf.proofs.overlap.is_overlapped.Given as goal

-- one of the others shares an address with the segment just where one of those that are left does
abbrev pub invariant-others : goal.invariant-others
invariant-others l =
    list_any (share_an_address (segment_of l.segment)) (map segment_of (drop l.other-index l.others))
    ≡ list_any (share_an_address (segment_of l.segment)) (map segment_of l.others)
