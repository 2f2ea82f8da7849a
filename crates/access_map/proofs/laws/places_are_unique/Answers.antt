use Rattle.access_map.proofs.OnePlaces.{one_places}
use Rattle.access_map.proofs.laws.places_are_unique.Goals as goal

pub returns : goal.returns
returns c board devices ps qs m n = one_places board devices ps qs m n
