use Rattle.reference.specs.Run.{after}
use Rattle.world_laws.proofs.worlds_apart_do_not_interfere.Goals as goal
use Rattle.world_laws.specs.WorldLaw.{with_rams_of}

pub returns : goal.returns
returns c board v w u s m n apart rams same first second =
    c.worlds_apart_run_alike.ensures board v w s (with_rams_of s (after m u).bus.memory) n second (record {
      apart = apart;
      rams = rams;
      written = c.worlds_write_what_they_may.ensures v u s m first same;
    })
