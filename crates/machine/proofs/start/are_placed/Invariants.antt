use Rattle.std.proofs.Common.{◌≡◌, map, drop}
use Rattle.elf.specs.Segment.{segment_of}
use Rattle.platform.specs.Boards.{numbers_of}
use Rattle.platform.specs.Images.{are_placed}
use Rattle.platform.specs.Boards.{blank}
use Rattle.machine.proofs.start.are_placed.Given as goal

-- the segments from the index on decide
abbrev pub invariant-segments : goal.invariant-segments
invariant-segments l =
    are_placed (blank (numbers_of l.board)) (map segment_of (drop l.segment-index l.segments))
    ≡ are_placed (blank (numbers_of l.board)) (map segment_of l.segments)
