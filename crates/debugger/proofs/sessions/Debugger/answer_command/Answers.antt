use Rattle.std.proofs.Common.{◌∙◌, sym, refl}
use Rattle.debugger.proofs.Running.{replied}
use Rattle.serving.proofs.Delivering.{put_delivers}
use Rattle.debugger.specs.Answers.{reply_text}
use Rattle.debugger.specs.Slots.{saved_in}
use Rattle.debugger.proofs.sessions.Debugger.answer_command.Goals as goal

pub returns-in-None-change_of-clause-delivers : goal.returns-in-None-change_of-clause-delivers
returns-in-None-change_of-clause-delivers g c =
    let s = (g.T.Target.model c.args.machine.now).state in
    let k = c.args.self.now.settings in
    replied k (saved_in c.args.self.now.slots) c.args.asked _ _ _ _ _ (sym c.steps_of.ensures ∙ c.in-None.is)
    (sym c.task_steps_of.ensures ∙ c.in-None-task_steps_of.is) (sym c.change_of.ensures ∙ c.in-None-change_of.is)
    (put_delivers (record { state = s; text = reply_text s k c.args.asked }) _ _ _ _ _ c.reply.ensures.text refl)
