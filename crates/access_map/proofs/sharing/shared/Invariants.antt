use Rattle.std.proofs.Common.{◌-◌, ◌≤◌}
use Rattle.access_map.specs.Sharing.{is_shared}
use Rattle.access_map.proofs.Spans.{IsGathered}
use Rattle.platform.specs.Boards.{numbers_of}
use Rattle.access_map.proofs.sharing.shared.Given as goal

-- the spans are complete up to the current stretch
abbrev pub invariant-each : goal.invariant-each
invariant-each l = record {
  gathered : IsGathered (is_shared (numbers_of l.board) l.writer l.reader l.allowed) 0 l.spans.items l.current;
  upto : l.current.last ≤ 0xDFFF_FFFF;
}

abbrev pub decreases-each : goal.decreases-each
decreases-each l = 0xDFFF_FFFF - l.current.last
