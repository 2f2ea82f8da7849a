use Rattle.survey.proofs.CountedLines.{counted_have_lines, each_has_one_line}
use Rattle.survey.proofs.laws.counted_events_have_lines.Goals as goal

pub returns-clause-counted : goal.returns-clause-counted
returns-clause-counted c = counted_have_lines

pub returns-clause-each : goal.returns-clause-each
returns-clause-each c = each_has_one_line
