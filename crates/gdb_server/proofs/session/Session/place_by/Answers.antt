use Rattle.gdb_past.proofs.Following.{same_sym}
use Rattle.gdb_past.specs.Places.{Past}
use Rattle.gdb_server.proofs.Keeping.{by_keeps}
use Rattle.gdb_server.specs.Commands.{placed_by}
use Rattle.gdb_server.proofs.session.Session.place_by.Goals as goal

pub place_by-requires : goal.place_by-requires
place_by-requires g c =
    same_sym c.self.inside.past.start c.args.machine.now.state (rw (← c.self.view_is) at c.requires)

pub invariant_of-self : goal.invariant_of-self
invariant_of-self g c =
    let past : Past = c.self.inside.past in (
      rw (
        c.place_by.ensures.past,
        by_keeps past (placed_by past.start c.args.machine.now.state c.args.asked) c.args.asked,
      )
          c.self.invariant.0,
      c.self.invariant.1,
    )
