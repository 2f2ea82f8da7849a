use Rattle.std.proofs.Common.{inl, refl}
use Rattle.std.proofs.lemmas.Result.{err_from_is_err_and}
use Rattle.reasons.proofs.settings.check_flash_size.Goals as goal

pub returns-in_err-size-clause-names : goal.returns-in_err-size-clause-names
returns-in_err-size-clause-names c =
    let p = err_from_is_err_and c.from_residual.result c.from_residual.ensures.1 in
    rw (p.1, p.2) (inl (c.in_err-size.ensures.names _ _ (record { is_named = refl; has_range = λ n. refl })))
