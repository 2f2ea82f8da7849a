use Rattle.reasons.proofs.Refusing.{found, is_of_script, none_found, passed}
use Rattle.reasons.proofs.events.script_problem.Goals as goal

pub returns-in-Err-clause-names : goal.returns-in-Err-clause-names
returns-in-Err-clause-names c =
    found _ _ _ _ _ _ _ _ _ c.values-test.true c.index-values-index.is c.in-Err.ensures c.values.invariant

pub returns-in-Err-clause-explains : goal.returns-in-Err-clause-explains
returns-in-Err-clause-explains c =
    is_of_script _ _ _ _
    (found _ _ _ _ _ _ _ _ _ c.values-test.true c.index-values-index.is c.in-Err.ensures c.values.invariant)

-- an event that is read
pub values-preserved : goal.values-preserved
values-preserved c =
    passed _ _ _ _ _ _ _ _ _ c.values-test.true c.index-values-index.is c.in-Ok.ensures c.values.invariant

pub returns-clause-names : goal.returns-clause-names
returns-clause-names c = none_found _ _ _ _ _ _ _ c.values-test.false c.values.invariant

pub returns-clause-explains : goal.returns-clause-explains
returns-clause-explains c = is_of_script _ _ _ _ (none_found _ _ _ _ _ _ _ c.values-test.false c.values.invariant)
