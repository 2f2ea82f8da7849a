use Rattle.std.proofs.Common.{sym, ap, ◌∙◌}
use Rattle.std.proofs.lemmas.List.{length-set}
use Rattle.survey.specs.Timeline.{join_at}
use Rattle.survey.proofs.Columns.{none_joined, one_joined}
use Rattle.survey.proofs.timeline.join_columns.Goals as goal

pub loop-column-init : goal.loop-column-init
loop-column-init c = record { joined = sym (none_joined c.args.columns.now); long = c.requires }

pub loop-column-preserved : goal.loop-column-preserved
loop-column-preserved c = record {
  joined =
      ap (λ columns. join_at columns c.loop-column.column) c.loop-column.invariant.joined
      ∙ sym (one_joined c.loop-column.column c.args.columns.now);
  long = length-set c.loop-column.columns c.loop-column.column _ ∙ c.loop-column.invariant.long;
}
