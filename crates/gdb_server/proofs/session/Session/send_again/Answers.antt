use Rattle.std.proofs.Common.{◌≡◌, true, ◌∙◌, refl, sym}
use Rattle.gdb_server.specs.Conduct.{piece}
use Rattle.serving.proofs.Delivering.{put_delivers}
use Rattle.gdb_server.proofs.session.Session.send_again.Goals as goal

pub returns-then-acknowledges : goal.returns-then-acknowledges
returns-then-acknowledges g c =
    let on : c.args.self.now.acknowledges ≡ true = sym c.acknowledges.ensures ∙ c.if-acknowledges.true in
    rw on (put_delivers (piece c.args.machine.now.state c.args.self.now.sent) _ _ _ _ _
    (rw (← c.last_sent.ensures) c.put_all.ensures) refl)
