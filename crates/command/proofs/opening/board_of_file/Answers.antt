use Rattle.command.proofs.Ends.{text_read, bytes_refused}
use Rattle.command.proofs.opening.board_of_file.Goals as goal

pub returns-in-Ok : goal.returns-in-Ok
returns-in-Ok c = text_read _ _ _ c.in-Ok.ensures.cases.1 c.in-Ok.ensures.cases.0 c.read_board.ensures.answer

pub returns-in-Err : goal.returns-in-Err
returns-in-Err c = bytes_refused _ _ c.in-Err.ensures.cases.0 cc
