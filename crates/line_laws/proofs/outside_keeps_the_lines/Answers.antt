use Rattle.line_laws.proofs.Outside.{alter_settled, place_settled, signal_settled}
use Rattle.line_laws.proofs.outside_keeps_the_lines.Goals as goal

pub returns-clause-place : goal.returns-clause-place
returns-clause-place c = place_settled

pub returns-clause-alter : goal.returns-clause-alter
returns-clause-alter c = alter_settled

pub returns-clause-signal : goal.returns-clause-signal
returns-clause-signal c = signal_settled
