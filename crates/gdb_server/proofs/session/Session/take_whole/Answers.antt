use Rattle.gdb_packets.specs.Framing.{plus}
use Rattle.gdb_packets.specs.Packets.{packet_of}
use Rattle.gdb_server.proofs.Putting.{delivers_then}
use Rattle.gdb_server.specs.Conduct.{acknowledgement, packet_answered}
use Rattle.serving.proofs.Delivering.{cut_before}
use Rattle.gdb_server.proofs.session.Session.take_whole.Goals as goal

pub returns-in-Err-clause-delivers : goal.returns-in-Err-clause-delivers
returns-in-Err-clause-delivers g c =
    let k = c.args.self.now in
    let s = c.args.machine.now.state in
    cut_before (acknowledgement k s plus) (packet_answered k s (packet_of c.args.content.now)).pieces _ _ _ _
    c.in-Err.ensures

pub returns-clause-delivers : goal.returns-clause-delivers
returns-clause-delivers g c =
    let k = c.args.self.now in
    let s = c.args.machine.now.state in
    let reported = rw c.read_packet.ensures at c.take_packet.ensures.delivers in
    delivers_then (acknowledgement k s plus) (packet_answered k s (packet_of c.args.content.now)).pieces _ _ _ _ _ _ _
    c.in-Ok.ensures reported
