use Rattle.std.proofs.Common.{◌≡◌, codes, arith}
use Rattle.debugger.proofs.Joining.{line_ended}
use Rattle.debugger.proofs.state.put_pending.Goals as goal

pub returns-clause-text : goal.returns-clause-text
returns-clause-text g c =
    let all : c.numbers.number ≡ 256 = omega arith in
    line_ended (g.T.Target.model c.args.machine.now).state.bus.system.nvic.pending _ _ (codes "PENDING") _ _ all
    c.numbers.invariant.text c.put-2.ensures
