use Rattle.std.proofs.Common.{subst}
use Rattle.gdb_past.proofs.Following.{same_after, same_sym, same_trans, same_board}
use Rattle.gdb_past.specs.Places.{AreOfOneMachine}
use Rattle.reference.specs.State.{State}
use Rattle.gdb_past.proofs.position.Position.restore.Goals as goal

pub restore-requires : goal.restore-requires
restore-requires g c =
    let saved : State = c.self.inside.saved in
    same_board c.args.machine.now.state saved
    (same_trans c.args.machine.now.state c.args.self.now saved c.requires
    (same_sym saved c.args.self.now
    (subst (λ (s : State). AreOfOneMachine saved s) c.self.view_is (same_after c.self.inside.steps saved))))
