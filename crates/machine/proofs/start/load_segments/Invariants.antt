use Rattle.std.proofs.Common.{◌≡◌, map, drop}
use Rattle.elf.specs.Segment.{segment_of}
use Rattle.platform.specs.Images.{image_loaded}
use Rattle.machine.proofs.start.load_segments.Given as goal

-- those from the index on are still to be loaded
abbrev pub invariant-segments : goal.invariant-segments
invariant-segments l =
    image_loaded l.memory (map segment_of (drop l.segment-index l.segments))
    ≡ image_loaded l.fn.memory (map segment_of l.segments)
