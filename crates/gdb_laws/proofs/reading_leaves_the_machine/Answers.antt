use Rattle.gdb_laws.proofs.OnlyReading.{byte_leaves, bytes_leave, session_leaves}
use Rattle.gdb_laws.proofs.reading_leaves_the_machine.Goals as goal

pub returns-clause-byte : goal.returns-clause-byte
returns-clause-byte c = byte_leaves

pub returns-clause-bytes : goal.returns-clause-bytes
returns-clause-bytes c = bytes_leave

pub returns-clause-session : goal.returns-clause-session
returns-clause-session c = session_leaves
