use Rattle.step_laws.proofs.Sizes.{alter_board, signal_board, step_board}
use Rattle.step_laws.proofs.board_stays.Goals as goal

pub returns-clause-step : goal.returns-clause-step
returns-clause-step c = step_board

pub returns-clause-alter : goal.returns-clause-alter
returns-clause-alter c = alter_board

pub returns-clause-signal : goal.returns-clause-signal
returns-clause-signal c = signal_board
