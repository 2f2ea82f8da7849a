use Rattle.platform.specs.Boards.{numbers_of}
use Rattle.toml.specs.View.{table_view}
use Rattle.reasons.proofs.Devices.{table_passes}
use Rattle.reasons.proofs.device_tables.check_table.Goals as goal

pub returns : goal.returns
returns c =
    table_passes (numbers_of c.args.layout.now) c.args.before c.args.devices.now (table_view c.args.table.now)
    c.in-Ok.span c.in-Ok-values_in.values c.check_device_keys.result c.in-Ok.ensures.read c.in-Ok-values_in.ensures
    c.in_ok-check_effects.ensures c.in_ok-check_device_line.ensures c.check_device_keys.ensures
