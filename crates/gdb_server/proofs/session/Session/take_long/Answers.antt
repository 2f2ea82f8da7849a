use Rattle.gdb_packets.specs.Framing.{plus}
use Rattle.gdb_server.proofs.Putting.{delivers_then}
use Rattle.gdb_server.specs.Conduct.{acknowledgement, too_long}
use Rattle.serving.proofs.Delivering.{cut_before}
use Rattle.gdb_server.proofs.session.Session.take_long.Goals as goal

pub returns-in-Err-clause-delivers : goal.returns-in-Err-clause-delivers
returns-in-Err-clause-delivers g c =
    let k = c.args.self.now in
    let s = c.args.machine.now.state in
    cut_before (acknowledgement k s plus) (too_long k s).pieces _ _ _ _
    c.in-Err.ensures

pub returns-clause-delivers : goal.returns-clause-delivers
returns-clause-delivers g c =
    let k = c.args.self.now in
    let s = c.args.machine.now.state in
    delivers_then (acknowledgement k s plus) (too_long k s).pieces _ _ _ _ _ _ _
    c.in-Ok.ensures c.refuse_long.ensures.delivers
