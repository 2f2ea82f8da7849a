use Rattle.std.proofs.Common.{◌∙◌, subst}
use Rattle.gdb_past.proofs.Following.{after_none, same_after, same_trans, same_board}
use Rattle.gdb_past.specs.Places.{AreOfOneMachine}
use Rattle.reference.specs.State.{State}
use Rattle.gdb_past.proofs.position.Position.take.Goals as goal

pub save_to-requires : goal.save_to-requires
save_to-requires g c =
    let saved : State = c.self.inside.saved in
    same_board saved c.args.machine.now.state
    (same_trans saved c.args.self.now c.args.machine.now.state
    (subst (λ (s : State). AreOfOneMachine saved s) c.self.view_is (same_after c.self.inside.steps saved)) c.requires)

pub returns : goal.returns
returns g c = after_none _ ∙ c.save_to.ensures
