use Rattle.std.proofs.Common.{arith}
use Rattle.debugger.proofs.Showing.{byte_more}
use Rattle.debugger.proofs.texts.put_bytes.Goals as goal

pub offsets-preserved : goal.offsets-preserved
offsets-preserved g c = record {
  text = byte_more _ _ _ _ _ _ _ _ c.offsets.invariant.text c.byte_address.ensures c.peek_memory_or_device.ensures
      c.put_byte.ensures.text;
  short = let grown = c.put_byte.ensures.grown in let short = c.offsets.invariant.short in omega arith;
}
