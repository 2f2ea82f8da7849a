use Rattle.access_map.proofs.Unique.{one_map}
use Rattle.access_map.proofs.laws.map_is_unique.Goals as goal

pub returns : goal.returns
returns c w board place xs ys m n = one_map w board place xs ys m n
