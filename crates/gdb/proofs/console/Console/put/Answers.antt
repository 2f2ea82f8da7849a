use Rattle.gdb.proofs.Showing.{bytes_cut, bytes_on, shown_none}
use Rattle.gdb.proofs.console.Console.put.Goals as goal

pub bytes-init : goal.bytes-init
bytes-init g c = shown_none (g.W.Out.writing c.args.out.now) c.args.self.now

pub bytes-preserved : goal.bytes-preserved
bytes-preserved g c =
    bytes_on (g.W.Out.writing c.args.out.now) (g.W.Out.writing c.bytes.out) (g.W.Out.writing c.put_byte.new.out)
    c.args.self.now c.bytes.self c.put_byte.new.self c.args.text.now c.bytes.byte-index c.bytes-test.true
    c.bytes.invariant c.in-Ok.ensures.put c.in-Ok.ensures.kept

pub returns-in-Err : goal.returns-in-Err
returns-in-Err g c =
    bytes_cut (g.W.Out.writing c.args.out.now) (g.W.Out.writing c.bytes.out) (g.W.Out.writing c.put_byte.new.out)
    c.args.self.now c.bytes.self c.args.text.now c.bytes.byte-index c.bytes-test.true c.bytes.invariant
    c.in-Err.ensures.put
