use Rattle.output.proofs.Gathering.{no_line_taken}
use Rattle.output.proofs.paged.PagedOut.put_line.Goals as goal

pub returns-in-Err : goal.returns-in-Err
returns-in-Err g c = (no_line_taken _ _ c.args.event.now c.in-Err.ensures.known, c.in-Err.ensures.error)
