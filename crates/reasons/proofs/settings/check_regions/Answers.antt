use Rattle.std.proofs.Common.{refl}
use Rattle.reasons.proofs.settings.check_regions.Goals as goal

pub returns-in-Err-clause-names : goal.returns-in-Err-clause-names
returns-in-Err-clause-names c = c.in-Err.ensures.names _ _ (record { is_named = refl; has_range = λ n. refl })
