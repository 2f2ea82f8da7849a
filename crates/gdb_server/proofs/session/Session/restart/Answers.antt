use Rattle.gdb_past.proofs.Following.{same_sym}
use Rattle.gdb_server.proofs.session.Session.restart.Goals as goal

pub restart-requires : goal.restart-requires
restart-requires g c =
    same_sym c.self.inside.past.start c.args.machine.now.state (rw (← c.self.view_is) at c.requires)
