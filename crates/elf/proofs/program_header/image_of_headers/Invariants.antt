use Rattle.std.proofs.Common.{◌≡◌, ◌≤◌, map, length}
use Rattle.platform.specs.Images.{segments_of}
use Rattle.elf.specs.Segment.{segment_of}
use Rattle.elf.proofs.Headers.{after, left_from}
use Rattle.elf.proofs.program_header.image_of_headers.Given as goal

abbrev pub invariant-headers : goal.invariant-headers
invariant-headers l = record {
  whole : after (map segment_of l.segments.items) (left_from l.file l.table l.count l.index)
      ≡ segments_of l.file l.table l.count;
  few : length l.segments.items ≤ l.index;
}
