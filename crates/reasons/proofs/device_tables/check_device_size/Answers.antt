use Rattle.std.proofs.Common.{codes}
use Rattle.std.proofs.lemmas.Result.{err_from_is_err_and}
use Rattle.board.specs.Devices.{is_device_bytes, is_device_size}
use Rattle.board.specs.Values.{number_or}
use Rattle.toml.specs.Data.{get_member}
use Rattle.toml.specs.View.{table_view}
use Rattle.platform.specs.Boards.{numbers_of}
use Rattle.reasons.proofs.Devices.{no_device_size}
use Rattle.reasons.proofs.SecondRam.{refused_too}
use Rattle.reasons.proofs.device_tables.check_device_size.Goals as goal

pub returns-in_err-size : goal.returns-in_err-size
returns-in_err-size c =
    let p = err_from_is_err_and c.from_residual.result c.from_residual.ensures.1 in
    rw (p.1, p.2)
    (refused_too is_device_bytes (is_device_size (numbers_of c.args.layout.now) c.args.before c.args.base)
    (number_or 4 (get_member (codes "size") (table_view c.args.table.now))) _
    (no_device_size (numbers_of c.args.layout.now) c.args.before c.args.base) c.in_err-size.ensures.read)
