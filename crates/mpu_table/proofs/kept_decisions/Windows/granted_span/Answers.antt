use Rattle.std.proofs.Common.{◌∙◌}
use Rattle.mpu_table.proofs.Alike.{granted_by}
use Rattle.mpu_table.proofs.kept_decisions.Windows.granted_span.Goals as goal

pub returns-then-decision : goal.returns-then-decision
returns-then-decision c = λ m fit a from to.
    granted_by m c.near-window.result.now a c.args.kind c.args.privileged _ (c.near-window.ensures m fit) from to
    c.requires (c.answer-decision.ensures ∙ c.grants.ensures _) c.if-decision.true
