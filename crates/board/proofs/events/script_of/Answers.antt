use Rattle.std.proofs.Common.{◌∙◌, ◌++◌, ◌∷◌, [], Ok, ap, refl, sym, inl, inr}
use Rattle.std.proofs.lemmas.Result.{err_from_is_err_and}
use Rattle.board.proofs.Scripts.{refused, taken, finished}
use Rattle.board.proofs.events.script_of.Goals as goal

-- an event is refused
pub returns-in_err-at : goal.returns-in_err-at
returns-in_err-at c =
    let p = err_from_is_err_and c.from_residual.result c.from_residual.ensures.1 in
    rw (p.1, p.2)
    (inl ((refused _ _ _ _ _ _ _ _ _ c.values-test.true c.value-item.is (sym c.timely_event.ensures ∙ c.in_err-at.was)
    c.values.invariant.whole)))

-- an event is put after those that were read
pub values-preserved : goal.values-preserved
values-preserved c = record {
  done = c.values.invariant.done ++ c.in_ok-at.field-0 ∷ [];
  whole = taken _ _ _ _ _ _ _ _ _ c.values-test.true c.value-item.is (sym c.timely_event.ensures ∙ c.in_ok-at.was)
      c.values.invariant.whole;
  gathered = λ whole. (c.gather-is_complete.ensures whole).1
      ∙ ap (λ events. events ++ c.in_ok-at.field-0 ∷ [])
      (c.values.invariant.gathered (c.gather-is_complete.ensures whole).0);
}

pub returns-then-not-is_complete : goal.returns-then-not-is_complete
returns-then-not-is_complete c =
    inr (refl, rw (finished _ _ _ _ _ _ _ c.values-test.false c.values.invariant.whole) refl)

pub returns : goal.returns
returns c =
    finished _ _ _ _ _ _ _ c.values-test.false c.values.invariant.whole
    ∙ ap Ok (sym (c.values.invariant.gathered c.if-not-is_complete.false))
