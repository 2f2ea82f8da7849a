use Rattle.std.proofs.Common.{◌≡◌, ◌+◌, ◌<◌, None, Some, ℕ, min, ap, sym, ◌∙◌, arith}
use Rattle.gdb.proofs.ReadableBytes.{all_put, gap_found, one_put}
use Rattle.gdb.specs.MemoryReads.{readable_byte, max_read}
use Rattle.gdb.proofs.reading.put_memory.Goals as goal

pub returns-in-None : goal.returns-in-None
returns-in-None g c =
    let s = c.args.machine.now.state in
    let inside : c.bytes.index < min c.args.count max_read = omega arith in
    let place : c.from.result + c.from-in-bytes.result ≡ c.args.address + c.bytes.index = omega arith in
    let is : readable_byte s (c.args.address + c.bytes.index) ≡ None =
    ap (λ (x : ℕ). readable_byte s x) (sym place) ∙ sym c.in-None.ensures in
    gap_found s c.args.address c.bytes.index (min c.args.count max_read) _ _ inside is c.bytes.invariant.digits

pub bytes-preserved : goal.bytes-preserved
bytes-preserved g c =
    let s = c.args.machine.now.state in
    let inside : c.bytes.index < min c.args.count max_read = omega arith in
    let place : c.from.result + c.from-in-bytes.result ≡ c.args.address + c.bytes.index = omega arith in
    let is : readable_byte s (c.args.address + c.bytes.index) ≡ Some c.in-Some.byte =
    ap (λ (x : ℕ). readable_byte s x) (sym place) ∙ sym c.in-Some.ensures in
    record {
      digits = one_put s c.args.address c.bytes.index (min c.args.count max_read) c.in-Some.byte _ _ _ inside is
          c.bytes.invariant.digits c.put_byte.ensures.text;
      room = omega (arith, c.put_byte.ensures.len, c.bytes.invariant.room);
    }

pub returns : goal.returns
returns g c =
    let over : c.bytes.index ≡ min c.args.count max_read = omega arith in
    all_put c.args.machine.now.state c.args.address c.bytes.index (min c.args.count max_read) _ _ over
    c.bytes.invariant.digits
