use Rattle.std.proofs.Common.{◌≡◌, ◌∙◌, ap, refl}
use Rattle.debugger.proofs.Running.{end_same}
use Rattle.serving.proofs.Delivering.{put_delivers}
use Rattle.debugger.specs.Answers.{end_piece}
use Rattle.debugger_commands.specs.Conditions.{run_end_text}
use Rattle.target.specs.declared.values.RegValues.{RegValues}
use Rattle.debugger.proofs.runs.put_end.Goals as goal

pub returns : goal.returns
returns g c =
    let s = (g.T.Target.model c.args.machine.now).state in
    let same : c.as_slice.result.now ≡ run_end_text c.args.settings.now c.args.hit s.registers.pc s.stop =
    c.as_slice.ensures ∙ (c.run_end_text-page.ensures
    ∙ end_same c.args.settings.now c.args.hit _ _ _ _ (ap (λ (v : RegValues). v.pc) c.regs.ensures) c.stop.ensures) in
    put_delivers (end_piece c.args.settings.now c.args.hit s) _ _ _ _ _ (rw (← same) c.put_all.ensures) refl
