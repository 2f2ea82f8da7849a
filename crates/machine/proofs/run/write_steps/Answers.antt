use Rattle.std.proofs.Common.{◌≡◌, arith}
use Rattle.machine.proofs.ManySteps.{then_cut, then_printed, then_written}
use Rattle.machine.proofs.run.write_steps.Goals as goal

pub returns-in-Ok-clause-written : goal.returns-in-Ok-clause-written
returns-in-Ok-clause-written g c =
    let none : c.select_quiet_steps-made.result ≡ 0 = omega arith in
    then_written g.V.View.SELECTION c.args.limit c.select_quiet_steps-made.result c.args.core.now
    c.select_quiet_steps-made.new.core c.write_selected.new.core (g.W.Out.writing c.args.out.now)
    (g.W.Out.writing c.select_quiet_steps-made.new.out) (g.W.Out.writing c.write_selected.new.out) none
    c.select_quiet_steps-made.ensures.state c.select_quiet_steps-made.ensures.text c.requires.some c.requires.going
    c.write_selected.ensures.state c.in-Ok.ensures.put

pub returns-in-Err-clause-cut : goal.returns-in-Err-clause-cut
returns-in-Err-clause-cut g c =
    let none : c.select_quiet_steps-made.result ≡ 0 = omega arith in
    then_cut g.V.View.SELECTION c.args.limit c.select_quiet_steps-made.result c.args.core.now
    c.select_quiet_steps-made.new.core c.write_selected.new.core (g.W.Out.writing c.args.out.now)
    (g.W.Out.writing c.select_quiet_steps-made.new.out) (g.W.Out.writing c.write_selected.new.out) none
    c.select_quiet_steps-made.ensures.state c.select_quiet_steps-made.ensures.text c.requires.some c.requires.going
    c.write_selected.ensures.state c.in-Err.ensures.put.0 c.in-Err.ensures.put.1

pub returns-in-Ok-clause-last : goal.returns-in-Ok-clause-last
returns-in-Ok-clause-last g c =
    let none : c.select_quiet_steps-made.result ≡ 0 = omega arith in
    then_printed g.V.View.SELECTION c.args.last.now c.select_quiet_steps-made.new.last c.write_selected.new.last
    c.select_quiet_steps-made.result c.args.core.now c.select_quiet_steps-made.new.core none
    c.select_quiet_steps-made.ensures.state c.select_quiet_steps-made.ensures.last c.write_selected.ensures.last
