use Rattle.std.proofs.Common.{◌∙◌, ap}
use Rattle.devices.specs.Devices.{position_from, with_content}
use Rattle.devices.proofs.Foreseen.{put_fits}
use Rattle.devices.proofs.devices.Devices.put_at.Goals as goal

pub invariant_of-self : goal.invariant_of-self
invariant_of-self c =
    put_fits _ _ _ c.args.ticks c.args.address c.args.content _ _ _
    (ap (λ ds. position_from 0 ds c.args.address) c.self.view_is ∙ c.requires)
    (c.put.ensures
    ∙ ap (λ d. with_content d c.args.ticks c.args.address c.args.content) c.index_mut.ensures.value)
    c.self.invariant
