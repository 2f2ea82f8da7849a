use Rattle.std.proofs.Common.{◌≡◌, ◌+◌, ◌-◌, ◌*◌, ◌++◌, min}
use Rattle.arrayvec.specs.ArrayVec.{array_vec_len}
use Rattle.gdb.specs.MemoryReads.{readable_bytes, memory_read, max_read}
use Rattle.gdb_texts.specs.Bytes.{bytes_text}
use Rattle.gdb.proofs.reading.put_memory.Given as goal

-- the digits so far, and those of the bytes that are left, are those of all bytes
abbrev pub invariant-bytes : goal.invariant-bytes
invariant-bytes g l = record {
  digits : l.page.items
      ++ bytes_text (readable_bytes l.machine.state (l.address + l.index) (min l.count max_read - l.index))
      ≡ bytes_text (memory_read l.machine.state l.address l.count);
  room : array_vec_len l.page ≡ 2 * l.index;
}
