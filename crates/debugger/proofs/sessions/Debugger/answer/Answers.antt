use Rattle.std.proofs.Common.{◌≡◌, ◌&&◌, ◌∙◌, ap, sym, not, true, false}
use Rattle.debugger.proofs.Running.{closed_after, closed_cut, not_closed}
use Rattle.debugger.specs.Answers.{is_closed}
use Rattle.debugger.specs.Held.{Held}
use Rattle.debugger_commands.specs.Commands.{quits}
use Rattle.debugger.proofs.sessions.Debugger.answer.Goals as goal

pub returns-in-Err-clause-delivers : goal.returns-in-Err-clause-delivers
returns-in-Err-clause-delivers g c =
    closed_cut (is_closed c.args.self.now.settings c.args.asked) _ _ _ _ _ c.in-Err.ensures.delivers

pub returns-then-closes-clause-delivers : goal.returns-then-closes-clause-delivers
returns-then-closes-clause-delivers g c =
    let closes : is_closed c.args.self.now.settings c.args.asked ≡ true =
    ap (λ (d : Held). d.settings.is_script && not (quits c.args.asked)) (sym c.answer_command.ensures.kept)
    ∙ sym c.closes.ensures ∙ c.if-closes.true in
    closed_after (is_closed c.args.self.now.settings c.args.asked) _ _ _ _ _ _ _ _ closes c.in-Ok.ensures.delivers
    c.close.ensures

pub returns-clause-delivers : goal.returns-clause-delivers
returns-clause-delivers g c =
    let open_end : is_closed c.args.self.now.settings c.args.asked ≡ false =
    ap (λ (d : Held). d.settings.is_script && not (quits c.args.asked)) (sym c.answer_command.ensures.kept)
    ∙ sym c.closes.ensures ∙ c.if-closes.false in
    not_closed (is_closed c.args.self.now.settings c.args.asked) _ _ _ _ _ open_end c.in-Ok.ensures.delivers
