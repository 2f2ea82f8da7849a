use Rattle.std.proofs.Common.{◌≡◌, ◌≤◌}
use Rattle.access_map.proofs.PlacesMade.{IsCutBy}
use Rattle.access_map.proofs.filling.cut_at_devices.Given as goal

-- the devices that were read have all addresses of the beginning, or none
abbrev pub invariant-each : goal.invariant-each
invariant-each l = record {
  first : l.near.first ≡ l.fn.within.first;
  some : l.near.first ≤ l.near.last;
  last : l.near.last ≤ l.fn.within.last;
  alike : IsCutBy l.devices l.device-index l.near.first l.near.last;
}
