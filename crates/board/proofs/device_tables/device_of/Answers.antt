use Rattle.board.proofs.Devices.{device_of_is}
use Rattle.board.specs.Reading.{span_read, values_read}
use Rattle.board.proofs.device_tables.device_of.Goals as goal

pub returns-clause-parts : goal.returns-clause-parts
returns-clause-parts c =
    device_of_is (span_read c.args.span.now) (values_read c.args.values.now) c.args.effects.now c.args.line _ _ _ _
