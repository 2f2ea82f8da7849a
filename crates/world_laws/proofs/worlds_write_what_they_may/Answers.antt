use Rattle.reference.specs.Run.{after}
use Rattle.world_laws.proofs.Written.{looks_itself, only_written}
use Rattle.world_laws.proofs.worlds_write_what_they_may.Goals as goal

pub returns : goal.returns
returns c v u s n run same =
    let alike =
    c.tasks_are_kept_apart.ensures.unprivileged u u n run.invariant run.unprivileged (looks_itself u)
    run.instructions in
    only_written v u s (after n u).bus.memory run.here same alike.kept_here
