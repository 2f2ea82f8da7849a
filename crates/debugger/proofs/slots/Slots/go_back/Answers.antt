use Rattle.std.proofs.Common.{◌∙◌, ap, sym, option_map}
use Rattle.debugger.proofs.Rooms.{found_fits}
use Rattle.debugger.proofs.slots.Slots.go_back.Goals as goal

pub restore-requires : goal.restore-requires
restore-requires g c =
    found_fits _ _ (g.T.Target.model c.args.machine.now).state.bus _ c.requires
    (sym c.saved.ensures ∙ ap (option_map (λ kept. g.T.Target.saved_state kept.now)) c.in-Some.is)
