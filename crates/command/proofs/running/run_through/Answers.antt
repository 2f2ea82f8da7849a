use Rattle.std.proofs.Common.{ap, Err, refl}
use Rattle.command.proofs.Ends.{failed_cut}
use Rattle.command.proofs.Sent.{cut_in_first}
use Rattle.command.proofs.running.run_through.Goals as goal

pub returns-in-Err-clause-traces : goal.returns-in-Err-clause-traces
returns-in-Err-clause-traces g c = (
  refl,
  cut_in_first _ _ _ _ _ _ (failed_cut _ _ _ _ _ _ c.in-Err.field-0 c.in-Err.ensures.error
      (λ e. c.in-Err.ensures.broken.0 (ap Err e)) c.requires),
)
