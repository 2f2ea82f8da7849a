use Rattle.std.proofs.Common.{◌≡◌, ◌⊎◌, inl, inr, ◌∙◌, sym, ap, refl, ℕ, ◌+◌, arith, IsSome, is_some, false}
use Rattle.std.proofs.KnownBytes.{Appends-nil}
use Rattle.machine.proofs.ManySteps.{cut_in_last, made_both, printed_both, shown_both, state_both}
use Rattle.machine.proofs.Running.{none_made, not_some, all_made, ends_so}
use Rattle.machine.proofs.Selecting.{all_shown, cut_in_end, none_printed, none_shown}
use Rattle.trace.specs.Selection.{selected_text}
use Rattle.machine.proofs.run.run_core.Goals as goal
use Rattle.machine.proofs.run.run_core.Goals.{else-steps-test, then-steps-test+then-has_stopped}

pub steps-init : goal.steps-init
steps-init g c = record {
  few = omega arith;
  core = sym (none_made c.args.core.now);
  made = λ k below. absurd (omega arith);
  shown = rw (none_shown g.V.View.SELECTION c.args.core.now) (Appends-nil _);
  printed = none_printed g.V.View.SELECTION c.args.core.now;
  same = refl;
  permit = c.requires;
}

pub steps-preserved : goal.steps-preserved
steps-preserved g c =
    let wrote = c.in-Ok.ensures.written in
    record {
      few = omega (arith, wrote.few);
      core = state_both _ _ _ _ _ c.steps.invariant.core wrote.state;
      made = made_both _ _ _ _ c.steps.invariant.core c.steps.invariant.made wrote.made;
      shown =
          shown_both (selected_text g.V.View.SELECTION) _ _ _ _ _ _ _ c.steps.invariant.shown wrote.text.0
          c.steps.invariant.core;
      printed =
          printed_both g.V.View.SELECTION _ _ _ _ _ _ c.in-Ok.ensures.last c.steps.invariant.printed
          c.steps.invariant.core;
      same = wrote.text.1 ∙ c.steps.invariant.same;
      permit = c.write_steps.ensures.permit;
    }

pub write_steps-requires-clause-going : goal.write_steps-requires-clause-going
write_steps-requires-clause-going g c = let going : is_some c.steps.core.stop ≡ false = cc in not_some _ going

pub returns-in-Err-clause-cut : goal.returns-in-Err-clause-cut
returns-in-Err-clause-cut g c =
    cut_in_last g.V.View.SELECTION (g.W.Out.writing c.args.out.now) (g.W.Out.writing c.steps.out)
    (g.W.Out.writing c.write_steps.new.out) _ _ _ _ _ _ c.steps.invariant.few c.steps.invariant.core
    c.steps.invariant.made c.steps.invariant.shown c.in-Err.ensures.cut

pub returns-in-Err-clause-error : goal.returns-in-Err-clause-error
returns-in-Err-clause-error g c =
    c.in-Err.ensures.cut.error ∙ ap (λ (n : ℕ). n + 1) c.steps.invariant.same

pub returns-in-Ok-put_all-clause-written : goal.returns-in-Ok-put_all-clause-written
returns-in-Ok-put_all-clause-written g c =
    let ends : (c.steps.made ≡ c.args.limit) ⊎ IsSome c.steps.core.stop =
    elim c.steps-test.branch [ else-steps-test w ↦ inl (omega arith) | then-steps-test+then-has_stopped w ↦ inr cc ] in
    let text = c.as_slice.ensures ∙ c.end_of_run-page.ensures in
    let went = rw text at c.in-Ok-put_all.ensures.0 in (
      all_shown g.V.View.SELECTION _ _ _ _ _ _ _ _ _ c.steps.invariant.few c.steps.invariant.core
          c.steps.invariant.shown c.steps.invariant.printed (cc) went ends,
      c.in-Ok-put_all.ensures.1 ∙ c.steps.invariant.same,
    )

pub returns-in-Ok-put_all-clause-state : goal.returns-in-Ok-put_all-clause-state
returns-in-Ok-put_all-clause-state g c =
    let ends : (c.steps.made ≡ c.args.limit) ⊎ IsSome c.steps.core.stop =
    elim c.steps-test.branch [ else-steps-test w ↦ inl (omega arith) | then-steps-test+then-has_stopped w ↦ inr cc ] in
    all_made _ _ _ _ c.steps.invariant.few c.steps.invariant.core ends

pub returns-in-Ok-put_all-clause-stop : goal.returns-in-Ok-put_all-clause-stop
returns-in-Ok-put_all-clause-stop g c =
    let ends : (c.steps.made ≡ c.args.limit) ⊎ IsSome c.steps.core.stop =
    elim c.steps-test.branch [ else-steps-test w ↦ inl (omega arith) | then-steps-test+then-has_stopped w ↦ inr cc ] in
    ends_so _ _ _ _ (cc) (all_made _ _ _ _ c.steps.invariant.few c.steps.invariant.core ends)

pub returns-in-Err-put_all-clause-cut : goal.returns-in-Err-put_all-clause-cut
returns-in-Err-put_all-clause-cut g c =
    let ends : (c.steps.made ≡ c.args.limit) ⊎ IsSome c.steps.core.stop =
    elim c.steps-test.branch [ else-steps-test w ↦ inl (omega arith) | then-steps-test+then-has_stopped w ↦ inr cc ] in
    let text = c.as_slice.ensures ∙ c.end_of_run-page.ensures in
    cut_in_end g.V.View.SELECTION (g.W.Out.writing c.args.out.now) (g.W.Out.writing c.steps.out)
    (g.W.Out.writing c.put_all.new.self) _ _ _ _ _ _ c.steps.invariant.few c.steps.invariant.made
    c.steps.invariant.core c.steps.invariant.shown c.steps.invariant.printed (cc)
    (rw text at c.in-Err-put_all.ensures.0) ends
