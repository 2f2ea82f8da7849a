use Rattle.access_map.proofs.Counted.{place_stays}
use Rattle.access_map.proofs.counting.Worlds.count_at.Goals as goal

pub returns-clause-stays : goal.returns-clause-stays
returns-clause-stays c =
    rw c.count_from.ensures.value (place_stays c.args.self.now c.args.world.now c.args.tick c.args.pc c.args.place
    c.count_from.ensures.rooms c.requires)
