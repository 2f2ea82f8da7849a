-- The part from `at` on is what was copied: its length is that of the bytes.
use Rattle.std.proofs.Common.{arith}
use Rattle.physical_memory.proofs.Bytes.{written_over}
use Rattle.physical_memory.proofs.memory.put_bytes.Goals as goal

pub returns : goal.returns
returns c = written_over c.args.block.now c.args.bytes.now c.copy_from_slice.new.self c.args.at _
    c.copy_from_slice.ensures.after (omega arith)
