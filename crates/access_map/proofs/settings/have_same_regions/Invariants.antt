use Rattle.std.proofs.Common.{◌≡◌, ◌<◌, ℕ}
use Rattle.platform.specs.Regions.{region}
use Rattle.access_map.proofs.settings.have_same_regions.Given as goal

-- the regions that were compared are the same
abbrev pub invariant-numbers : goal.invariant-numbers
invariant-numbers l = (k : ℕ) → k < l.number → region l.registers k ≡ region l.others k
