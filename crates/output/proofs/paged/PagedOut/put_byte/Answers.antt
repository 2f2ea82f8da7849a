use Rattle.output.proofs.Gathering.{no_byte_taken}
use Rattle.output.proofs.paged.PagedOut.put_byte.Goals as goal

pub returns-in-Err : goal.returns-in-Err
returns-in-Err g c = (no_byte_taken _ _ _ c.in-Err.ensures.known, c.in-Err.ensures.error)
