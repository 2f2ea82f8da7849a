use Rattle.std.proofs.Common.{sym, ◌∙◌}
use Rattle.nvic.proofs.Best.{best_small}
use Rattle.nvic.proofs.exceptions.Exceptions.candidate.Goals as goal

pub returns-then-preempts-clause-small : goal.returns-then-preempts-clause-small
returns-then-preempts-clause-small g c = best_small _ c.in_ok-best.best (sym c.best.ensures ∙ c.in_ok-best.was)
