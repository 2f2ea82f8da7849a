use Rattle.std.proofs.Common.{◌≡◌, ◌∙◌, refl}
use Rattle.serving.proofs.Delivering.{put_delivers}
use Rattle.debugger.specs.Answers.{closing_piece, closing_text}
use Rattle.debugger.proofs.sessions.close.Goals as goal

pub returns : goal.returns
returns g c =
    let s = (g.T.Target.model c.args.machine.now).state in
    let same : c.as_slice.result.now ≡ closing_text s = c.as_slice.ensures ∙ c.closing_text-page.ensures in
    put_delivers (closing_piece s) _ _ _ _ _ (rw (← same) c.put_all.ensures) refl
