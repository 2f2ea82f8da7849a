use Rattle.std.proofs.Common.{◌≡◌, ◌∙◌}
use Rattle.serving.proofs.Delivering.{put_delivers}
use Rattle.debugger.specs.Answers.{change_piece}
use Rattle.debugger.specs.Slots.{saved_in}
use Rattle.debugger.proofs.sessions.Debugger.change.Goals as goal
use Rattle.serving.specs.Pieces.{Piece}

pub returns-clause-delivers : goal.returns-clause-delivers
returns-clause-delivers g c =
    let s = (g.T.Target.model c.args.machine.now).state in
    let piece : Piece = change_piece s (saved_in c.self.inside.slots) c.args.what in
    let same : c.as_slice.result.now ≡ piece.text = c.as_slice.ensures ∙ c.change-page.ensures.text in
    rw (← c.self.view_is) (put_delivers piece _ _ _ _ _ (rw (← same) c.put_all.ensures) c.change-page.ensures.state)
