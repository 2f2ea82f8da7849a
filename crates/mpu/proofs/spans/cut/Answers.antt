use Rattle.std.proofs.Common.{◌∙◌, sym}
use Rattle.mpu.proofs.Blocks.{alike_disabled}
use Rattle.mpu.proofs.spans.cut.Goals as goal

pub returns-then-not-is_region_enabled-clause-alike : goal.returns-then-not-is_region_enabled-clause-alike
returns-then-not-is_region_enabled-clause-alike c = λ a from to.
    alike_disabled c.args.region a c.args.address (sym c.is_region_enabled.ensures ∙ c.if-not-is_region_enabled.true)
