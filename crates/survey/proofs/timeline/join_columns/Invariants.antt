use Rattle.std.proofs.Common.{◌≡◌, length}
use Rattle.survey.specs.Timeline.{joined_to}
use Rattle.survey.proofs.timeline.join_columns.Given as goal

abbrev pub invariant-loop-column : goal.invariant-loop-column
invariant-loop-column l = record {
  joined : l.columns ≡ joined_to l.column l.fn.columns;
  long : length l.columns ≡ 1024;
}
