use Rattle.std.proofs.Common.{◌≡◌, ◌+◌, drop}
use Rattle.access_map.specs.Counting.{place_in}
use Rattle.access_map.proofs.counting.place_in.Given as goal

abbrev pub invariant-rows : goal.invariant-rows
invariant-rows l = l.place + place_in l.world (drop l.place l.rows) ≡ place_in l.world l.rows
