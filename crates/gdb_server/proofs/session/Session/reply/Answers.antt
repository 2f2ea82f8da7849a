use Rattle.std.proofs.Common.{refl}
use Rattle.gdb_server.specs.Conduct.{piece}
use Rattle.gdb_server.specs.Sessions.{reply_packet}
use Rattle.serving.proofs.Delivering.{put_delivers}
use Rattle.gdb_server.proofs.session.Session.reply.Goals as goal

pub returns-clause-delivers : goal.returns-clause-delivers
returns-clause-delivers g c =
    put_delivers (piece c.args.machine.now.state (reply_packet c.args.answer)) _ _ _ _ _ c.put_reply.ensures.put refl
