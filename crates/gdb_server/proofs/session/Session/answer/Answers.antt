use Rattle.std.proofs.Common.{◌≡◌, ◌∙◌, ap, rules}
use Rattle.gdb_past.specs.Places.{past_anew}
use Rattle.gdb_server.proofs.Ahead.{now_ahead, ready_anew}
use Rattle.gdb_server.proofs.Keeping.{moved}
use Rattle.gdb_server.specs.Conduct.{answered}
use Rattle.machine.specs.MachineModel.{MachineModel}
use Rattle.gdb_server.specs.Sessions.{Session}
use Rattle.gdb_server.proofs.session.Session.answer.Goals as goal

pub returns-in-Say-clause-delivers : goal.returns-in-Say-clause-delivers
returns-in-Say-clause-delivers g c =
    rw c.in-Say.is (rw (c.of.ensures ∙ c.constant_text.ensures.text) at c.reply.ensures.delivers)

pub returns-in-Say-clause-kept : goal.returns-in-Say-clause-kept
returns-in-Say-clause-kept g c =
    let kept : c.reply.new.self
    ≡ (answered c.args.self.now c.args.machine.now.state c.args.purpose c.args.tail.now).session =
    rw c.in-Say.is (rw (c.of.ensures ∙ c.constant_text.ensures.text) at c.reply.ensures.kept) in
    search rules

pub returns-in-Read-clause-delivers : goal.returns-in-Read-clause-delivers
returns-in-Read-clause-delivers g c = rw c.in-Read.is (rw c.read-data.ensures at c.reply-in-Read.ensures.delivers)

pub returns-in-Read-clause-kept : goal.returns-in-Read-clause-kept
returns-in-Read-clause-kept g c =
    let kept : c.reply-in-Read.new.self
    ≡ (answered c.args.self.now c.args.machine.now.state c.args.purpose c.args.tail.now).session =
    rw c.in-Read.is (rw c.read-data.ensures at c.reply-in-Read.ensures.kept) in
    search rules

pub returns-in-Set-clause-delivers : goal.returns-in-Set-clause-delivers
returns-in-Set-clause-delivers g c =
    rw c.in-Set.is
    (rw c.set-data.ensures.answer at c.reply-in-Set.ensures.delivers)

pub returns-in-Set-clause-kept : goal.returns-in-Set-clause-kept
returns-in-Set-clause-kept g c =
    let kept : c.reply-in-Set.new.self
    ≡ (answered c.args.self.now c.args.machine.now.state c.args.purpose c.args.tail.now).session =
    rw c.in-Set.is
    (rw (c.set-data.ensures.answer, c.set-data.ensures.kept) at c.reply-in-Set.ensures.kept) in
    search rules

pub returns-in-Restart-clause-delivers : goal.returns-in-Restart-clause-delivers
returns-in-Restart-clause-delivers g c =
    rw c.in-Restart.is (moved c.args.self.now.past.start c.args.machine.now c.restart.new.machine
    (g.W.Out.writing c.args.out.now) c.restart.ensures.machine)

pub returns-in-Restart-clause-ahead : goal.returns-in-Restart-clause-ahead
returns-in-Restart-clause-ahead g c =
    now_ahead c.restart.new.self c.restart.new.machine (past_anew c.args.self.now.past)
    c.args.self.now.past.start (ap (λ (k : Session). k.past) c.restart.ensures.kept)
    (ap (λ (m : MachineModel). m.state) c.restart.ensures.machine) (ready_anew c.args.self.now.past)

pub restart-requires : goal.restart-requires
restart-requires g c = c.requires.fits
