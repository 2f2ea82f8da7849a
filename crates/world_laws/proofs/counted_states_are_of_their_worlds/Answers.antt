use Rattle.std.proofs.Common.{Result, subst}
use Rattle.access_map.specs.Counting.{no_worlds}
use Rattle.platform.specs.declared.error.StartError.{StartError}
use Rattle.reference.specs.Invariant.{Invariant}
use Rattle.reference.specs.Run.{after}
use Rattle.reference.specs.State.{State}
use Rattle.state_laws.specs.StateLaw.{IfGiven}
use Rattle.survey_run.specs.WorldRuns.{worlds_after}
use Rattle.world_laws.proofs.Reached.{is_of_world, run_keeps}
use Rattle.world_laws.proofs.counted_states_are_of_their_worlds.Goals as goal

pub returns : goal.returns
returns c board image first steps n w begins counted =
    let begun : Invariant first =
    subst (λ (r : Result State StartError). IfGiven Invariant r) begins.starts
    (c.start_gives_the_invariant.ensures board image begins.is_board) in
    is_of_world board.numbers w (worlds_after steps first no_worlds) (after n first)
    (c.runs_keep_their_rams.ensures.run board image first begins n)
    (run_keeps Invariant c.step_keeps_the_invariant.ensures first begun n) counted
