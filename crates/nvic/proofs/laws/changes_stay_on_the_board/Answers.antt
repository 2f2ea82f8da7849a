use Rattle.nvic.proofs.Boards.{reset_of_board, pending_of_board, enabled_of_board, active_of_board, priority_of_board}
use Rattle.nvic.proofs.Boards.{group_of_board, primask_of_board, faultmask_of_board, basepri_of_board, due_of_board}
use Rattle.nvic.proofs.laws.changes_stay_on_the_board.Goals as goal

pub returns-clause-reset : goal.returns-clause-reset
returns-clause-reset c = reset_of_board

pub returns-clause-pending : goal.returns-clause-pending
returns-clause-pending c = pending_of_board

pub returns-clause-enabled : goal.returns-clause-enabled
returns-clause-enabled c = enabled_of_board

pub returns-clause-active : goal.returns-clause-active
returns-clause-active c = active_of_board

pub returns-clause-priority : goal.returns-clause-priority
returns-clause-priority c = priority_of_board

pub returns-clause-group : goal.returns-clause-group
returns-clause-group c = group_of_board

pub returns-clause-primask : goal.returns-clause-primask
returns-clause-primask c = primask_of_board

pub returns-clause-faultmask : goal.returns-clause-faultmask
returns-clause-faultmask c = faultmask_of_board

pub returns-clause-basepri : goal.returns-clause-basepri
returns-clause-basepri c = basepri_of_board

pub returns-clause-due : goal.returns-clause-due
returns-clause-due c = due_of_board
