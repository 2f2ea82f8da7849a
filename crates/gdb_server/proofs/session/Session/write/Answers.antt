use Rattle.std.proofs.Common.{◌≡◌, ◌∙◌, ap, subst, sym}
use Rattle.gdb_past.proofs.Following.{same_trans}
use Rattle.gdb_past.specs.Places.{AreOfOneMachine}
use Rattle.gdb_server.proofs.Ahead.{now_ahead, on_ok, wrote_ahead}
use Rattle.gdb_server.proofs.Marking.{session_wrote}
use Rattle.gdb_server.proofs.Sizes.{written_stays}
use Rattle.machine.specs.MachineModel.{MachineModel}
use Rattle.gdb_server.specs.Conduct.{past_after, piece, wrote}
use Rattle.gdb_server.specs.Sessions.{Session, data_of_write, reply_packet}
use Rattle.gdb_server.specs.Writes.{Written, writes, written}
use Rattle.reference.specs.State.{State}
use Rattle.serving.proofs.Delivering.{put_delivers}
use Rattle.gdb_server.proofs.session.Session.write.Goals as goal

pub mark_after-requires : goal.mark_after-requires
mark_after-requires g c =
    let s : State = c.args.machine.now.state in
    let start : State = c.args.self.now.past.start in
    subst (λ (m : MachineModel). AreOfOneMachine start m.state) (sym c.write-refused.ensures.0)
    (same_trans start s (written s c.args.change c.args.tail.now).state c.requires.fits
    (written_stays s c.args.change c.args.tail.now))

pub returns-clause-delivers : goal.returns-clause-delivers
returns-clause-delivers g c =
    let w : Written = written c.args.machine.now.state c.args.change c.args.tail.now in
    let same : c.data_of_write.result ≡ data_of_write w.refused =
    c.data_of_write.ensures ∙ ap data_of_write c.write-refused.ensures.1 in
    put_delivers (piece w.state (reply_packet (data_of_write w.refused))) _ _ _ _ _
    (rw (← same) c.put_reply.ensures.put)
    c.write-refused.ensures.0

pub returns-clause-kept : goal.returns-clause-kept
returns-clause-kept g c =
    let w : Written = written c.args.machine.now.state c.args.change c.args.tail.now in
    session_wrote c.args.self.now c.mark_after.new.self c.put_reply.new.self (writes c.args.change c.args.tail.now) w
    c.args.machine.now c.write-refused.new.machine c.write-refused.result c.data_of_write.result
    c.write-refused.ensures (rw c.writes.ensures at c.mark_after.ensures) c.data_of_write.ensures
    c.put_reply.ensures.kept

pub returns-clause-ahead : goal.returns-clause-ahead
returns-clause-ahead g c =
    let k = c.args.self.now in
    let s : State = c.args.machine.now.state in
    let something = writes c.args.change c.args.tail.now in
    let w : Written = written s c.args.change c.args.tail.now in
    let kept : c.put_reply.new.self ≡ (wrote k something w).session =
    session_wrote k c.mark_after.new.self c.put_reply.new.self something w c.args.machine.now
    c.write-refused.new.machine c.write-refused.result c.data_of_write.result c.write-refused.ensures
    (rw c.writes.ensures at c.mark_after.ensures) c.data_of_write.ensures c.put_reply.ensures.kept in
    on_ok c.put_reply.result
    (now_ahead c.put_reply.new.self c.write-refused.new.machine (past_after k.past something w.state w.refused) w.state
    (ap (λ (q : Session). q.past) kept) (ap (λ (m : MachineModel). m.state) c.write-refused.ensures.0)
    (wrote_ahead k.past s c.args.change c.args.tail.now c.requires))
