use Rattle.std.proofs.lemmas.Result.{err_from_is_err_and}
use Rattle.platform.specs.Boards.{is_second_ram, is_second_size, numbers_of}
use Rattle.reasons.proofs.SecondRam.{no_second_ram, refused_too}
use Rattle.reasons.proofs.second_ram.check_second_size.Goals as goal

pub returns-in_err-size : goal.returns-in_err-size
returns-in_err-size c =
    let p = err_from_is_err_and c.from_residual.result c.from_residual.ensures.1 in
    rw (p.1, p.2)
    (refused_too is_second_size
    (λ size. is_second_ram (numbers_of c.args.layout.now) (record { base = c.args.base; size = size })) _ _
    (no_second_ram (numbers_of c.args.layout.now) c.args.base) c.in_err-size.ensures.read)
