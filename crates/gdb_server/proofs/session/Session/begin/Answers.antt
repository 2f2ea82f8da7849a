use Rattle.std.proofs.Common.{◌≡◌, List, ℕ, Result, ap, subst}
use Rattle.gdb_past.specs.Places.{past_anew}
use Rattle.gdb_server.proofs.Ahead.{now_ahead, on_ok, ready_anew}
use Rattle.gdb_server.proofs.Marking.{begun_data, session_begun}
use Rattle.gdb_server.specs.Conduct.{begun, piece}
use Rattle.gdb_server.specs.declared.purposes.Reading.TheVariants as reading
use Rattle.gdb_server.specs.Replies.{data_read}
use Rattle.gdb_server.specs.Sessions.{Session, reply_packet}
use Rattle.gdb_texts.specs.declared.replies.ErrorCode.{ErrorCode}
use Rattle.machine.specs.MachineModel.{MachineModel}
use Rattle.output.specs.Output.{Put}
use Rattle.reference.specs.State.{State}
use Rattle.serving.proofs.Delivering.{put_delivers}
use Rattle.gdb_server.proofs.session.Session.begin.Goals as goal

pub returns-clause-delivers : goal.returns-clause-delivers
returns-clause-delivers g c =
    let k = c.args.self.now in
    let s : State = k.past.start in
    let at : c.restart.new.machine.state ≡ s = ap (λ (m : MachineModel). m.state) c.restart.ensures.machine in
    let same : c.read-data.result ≡ data_read k.signal k.board k.devices s reading.StopReason =
    begun_data k c.restart.new.self c.restart.new.machine.state c.read-data.result c.restart.ensures.kept at
    c.read-data.ensures in
    put_delivers (piece s (reply_packet (data_read k.signal k.board k.devices s reading.StopReason))) _ _ _ _ _
    (subst (λ (answer : Result (List ℕ) ErrorCode). Put (g.W.Out.writing c.args.out.now)
    (g.W.Out.writing c.put_reply.new.out) (reply_packet answer) c.put_reply.result) same c.put_reply.ensures.put)
    c.restart.ensures.machine

pub returns-clause-kept : goal.returns-clause-kept
returns-clause-kept g c =
    let k = c.args.self.now in
    session_begun k c.restart.new.self c.put_reply.new.self c.restart.new.machine.state c.read-data.result
    c.restart.ensures.kept (ap (λ (m : MachineModel). m.state) c.restart.ensures.machine) c.read-data.ensures
    c.put_reply.ensures.kept

pub returns-clause-ahead : goal.returns-clause-ahead
returns-clause-ahead g c =
    let k = c.args.self.now in
    let kept : c.put_reply.new.self ≡ (begun k).session =
    session_begun k c.restart.new.self c.put_reply.new.self c.restart.new.machine.state c.read-data.result
    c.restart.ensures.kept (ap (λ (m : MachineModel). m.state) c.restart.ensures.machine) c.read-data.ensures
    c.put_reply.ensures.kept in
    on_ok c.put_reply.result
    (now_ahead c.put_reply.new.self c.restart.new.machine (past_anew k.past) k.past.start
    (ap (λ (s : Session). s.past) kept) (ap (λ (m : MachineModel). m.state) c.restart.ensures.machine)
    (ready_anew k.past))

pub restart-requires : goal.restart-requires
restart-requires g c = c.requires.fits
