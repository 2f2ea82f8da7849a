use Rattle.reference.specs.State.{State}
use Rattle.reference.specs.Step.{step}
use Rattle.world_laws.proofs.Reached.{first_has_rams, rams_stay, run_keeps}
use Rattle.world_laws.proofs.runs_keep_their_rams.Goals as goal
use Rattle.world_laws.specs.WorldLaw.{HasRamsOf}

pub returns-clause-step : goal.returns-clause-step
returns-clause-step c board s rams =
    rams_stay board s.bus.memory (step s).state.bus.memory (c.board_stays.ensures.step s).0 rams

pub returns-clause-run : goal.returns-clause-run
returns-clause-run c board image first begins =
    run_keeps (λ (s : State). HasRamsOf board.numbers s.bus.memory)
    (λ s rams. rams_stay board.numbers s.bus.memory (step s).state.bus.memory (c.board_stays.ensures.step s).0 rams) first
    (first_has_rams board image first begins.starts (c.boards_have_their_rams.ensures board.numbers))
