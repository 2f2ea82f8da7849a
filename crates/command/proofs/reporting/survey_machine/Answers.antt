use Rattle.std.proofs.lemmas.Result.{err_from_is_err_and}
use Rattle.command.proofs.reporting.survey_machine.Goals as goal

pub returns-in_err-put_page : goal.returns-in_err-put_page
returns-in_err-put_page g c =
    let p = err_from_is_err_and c.from_residual.result c.from_residual.ensures.1 in
    rw (p.1, p.2) c.in_err-put_page.ensures
