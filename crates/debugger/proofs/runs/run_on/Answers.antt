use Rattle.std.proofs.Common.{◌≡◌, ◌∙◌, ap, false, sym, arith, Option}
use Rattle.debugger.proofs.Running.{run_cut, run_ends, run_more, run_over}
use Rattle.serving.proofs.Delivering.{delivers_nothing}
use Rattle.debugger.specs.Answers.{ends_at, hit_before}
use Rattle.debugger_commands.specs.declared.conditions.Hit.{Hit}
use Rattle.debugger.proofs.runs.run_on.Goals as goal

pub steps-init : goal.steps-init
steps-init g c = delivers_nothing _ _ _

-- the run ends where it is
pub returns-then-ends_at : goal.returns-then-ends_at
returns-then-ends_at g c =
    run_ends c.args.settings.now _ _ _ _ _ _ _ _ _ _ c.steps-test.true c.hit_before-now.ensures
    (sym c.ends_at.ensures ∙ c.if-ends_at.true) c.steps.invariant c.put_end.ensures

pub returns-in-Err : goal.returns-in-Err
returns-in-Err g c =
    let s = (g.T.Target.model c.steps.machine).state in
    let goes : ends_at (hit_before c.args.settings.now c.steps.hit s) s ≡ false =
    ap (λ (x : Option Hit). ends_at x s) (sym c.hit_before-now.ensures)
    ∙ sym c.ends_at.ensures ∙ c.if-ends_at.false in
    run_cut c.args.settings.now _ _ _ _ _ _ _ _ _ c.steps-test.true goes c.steps.invariant c.in-Err.ensures.delivers

pub steps-preserved : goal.steps-preserved
steps-preserved g c =
    let s = (g.T.Target.model c.steps.machine).state in
    let goes : ends_at (hit_before c.args.settings.now c.steps.hit s) s ≡ false =
    ap (λ (x : Option Hit). ends_at x s) (sym c.hit_before-now.ensures)
    ∙ sym c.ends_at.ensures ∙ c.if-ends_at.false in
    run_more c.args.settings.now _ _ _ _ _ _ _ _ _ _ c.steps-test.true goes c.in-Ok.ensures.hit c.steps.invariant
    c.in-Ok.ensures.delivers

-- no step is left
pub returns : goal.returns
returns g c =
    run_over c.args.settings.now _ _ _ _ _ _ _ _ _ (omega arith) c.steps.invariant c.put_end-2.ensures
