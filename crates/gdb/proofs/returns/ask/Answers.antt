use Rattle.gdb.proofs.Returning.{asked_all, asked_part}
use Rattle.gdb.proofs.returns.ask.Goals as goal

pub returns-in-Ok-clause-delivers : goal.returns-in-Ok-clause-delivers
returns-in-Ok-clause-delivers g c =
    asked_all c.args.position.now c.args.machine.now c.restore.new.machine (g.W.Out.writing c.args.out.now)
    (g.W.Out.writing c.send_packet.new.out) c.restore.ensures c.in-Ok.ensures.put

pub returns-in-Err-clause-delivers : goal.returns-in-Err-clause-delivers
returns-in-Err-clause-delivers g c =
    asked_part c.args.position.now c.args.machine.now c.restore.new.machine (g.W.Out.writing c.args.out.now)
    (g.W.Out.writing c.send_packet.new.out) c.restore.ensures c.in-Err.ensures.put.0 c.in-Err.ensures.put.1
