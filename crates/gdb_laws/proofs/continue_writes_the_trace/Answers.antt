use Rattle.gdb_laws.proofs.Traces.{trace_law}
use Rattle.gdb_laws.proofs.continue_writes_the_trace.Goals as goal

pub returns : goal.returns
returns c = trace_law
