use Rattle.access_map.proofs.SameSettings.{decided, same_exactly}
use Rattle.access_map.specs.Settings.{IsSameSetting, is_same_setting}
use Rattle.access_map.proofs.world.World.is_same.Goals as goal

pub returns-clause-test : goal.returns-clause-test
returns-clause-test c =
    let v = c.args.self.now in let w = c.args.other.now in
    decided c.has_setting_of.result (is_same_setting v w) (IsSameSetting v w) c.has_setting_of.ensures.0
    c.has_setting_of.ensures.1 (same_exactly v w).0 (same_exactly v w).1
