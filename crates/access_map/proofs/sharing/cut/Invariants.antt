use Rattle.std.proofs.Common.{◌≡◌, ◌≤◌}
use Rattle.access_map.proofs.Spans.{IsCutBy}
use Rattle.access_map.proofs.sharing.cut.Given as goal

-- the spans that were read have all addresses of the beginning, or none
abbrev pub invariant-each : goal.invariant-each
invariant-each l = record {
  first : l.near.first ≡ l.fn.within.first;
  some : l.near.first ≤ l.near.last;
  last : l.near.last ≤ l.fn.within.last;
  alike : IsCutBy l.spans l.span-index l.near.first l.near.last;
}
