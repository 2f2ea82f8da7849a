use Rattle.std.proofs.Common.{sym, ◌∙◌}
use Rattle.mpu_table.proofs.Cuts.{parted, disabled_parts}
use Rattle.mpu_table.proofs.boundaries.add_region.Goals as goal

pub returns-then-is_region_enabled-clause-parts : goal.returns-then-is_region_enabled-clause-parts
returns-then-is_region_enabled-clause-parts c =
    parted _ c.args.region (rw (c.of.ensures.begin, c.of.ensures.length, c.of.ensures.count) at
    c.add_to.ensures.boundaries)

pub returns-else-is_region_enabled-clause-parts : goal.returns-else-is_region_enabled-clause-parts
returns-else-is_region_enabled-clause-parts c =
    disabled_parts _ c.args.region (sym c.is_region_enabled.ensures ∙ c.if-is_region_enabled.false)
