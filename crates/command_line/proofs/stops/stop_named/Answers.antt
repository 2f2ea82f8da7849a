use Rattle.std.proofs.Common.{refl}
use Rattle.command_line.proofs.stops.stop_named.Goals as goal
use Rattle.command_line.proofs.Stopping.{no_stop}

pub returns-clause-none : goal.returns-clause-none
returns-clause-none c =
    λ none. no_stop c.args.words.now (record {
      steps = c.in_default.ensures.not_steps refl;
      lockup = c.in_default.ensures.not_lockup refl;
      reset = c.in_default.ensures.not_reset refl;
      breakpoint = c.in_default-breakpoint_named.ensures.none refl;
      unpredictable = c.in_default-case_named.ensures.none refl;
      unsupported = c.case_named-2.ensures.none none;
    })
