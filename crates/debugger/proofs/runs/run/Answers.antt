use Rattle.std.proofs.Common.{◌≡◌, false, is_some}
use Rattle.debugger.proofs.Running.{first_cut, then_on}
use Rattle.debugger.proofs.runs.run.Goals as goal

pub returns-in-Err : goal.returns-in-Err
returns-in-Err g c =
    let going : is_some (g.T.Target.model c.args.machine.now).state.stop ≡ false = cc in
    first_cut c.args.settings.now _ _ _ _ _ going c.in-Err.ensures.delivers

pub returns-in-Ok : goal.returns-in-Ok
returns-in-Ok g c =
    let going : is_some (g.T.Target.model c.args.machine.now).state.stop ≡ false = cc in
    then_on c.args.settings.now _ _ _ _ _ _ _ _ _ _ going c.saturating_sub.ensures c.in-Ok.ensures.hit
    c.in-Ok.ensures.delivers c.run_on.ensures
