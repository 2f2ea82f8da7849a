-- A machine that goes on from the last mark.
use Rattle.std.proofs.Common.{◌≡◌, ◌∙◌, ℕ, suc, ap, refl, slice_index_or, subst, sym}
use Rattle.gdb_past.proofs.Following.{after_more, after_none, same_refl, same_step, same_trans}
use Rattle.gdb_past.specs.Places.{past_from}
use Rattle.gdb_past.specs.Ways.{IsAfterMark, StaysAfterMark}
use Rattle.machine.specs.MachineModel.{MachineModel}
use Rattle.reference.specs.State.{State}
use Rattle.reference.specs.Step.{step}

-- at first it is at the mark
pub at_first : (room : ℕ) (s : State) → IsAfterMark (past_from room s) s
at_first room s = record { fits = same_refl s; steps = 0; there = λ m. sym (after_none s) }

-- after a step
pub on_by_step : (s : State) → StaysAfterMark s (step s).state
on_by_step s = λ past h. record {
  fits = same_trans past.start s (step s).state h.fits (same_step s);
  steps = suc h.steps;
  there = λ m. ap (λ (t : State). (step t).state) (h.there m)
      ∙ sym (after_more h.steps (suc h.steps) (slice_index_or past.marks 0 m) refl);
}

-- a machine that made a step, and one that is in the same state again
pub on_by : (old new : MachineModel) → new ≡ record old { state = (step old.state).state }
    → StaysAfterMark old.state new.state
on_by old new is =
    subst (λ (m : MachineModel). StaysAfterMark old.state m.state) (sym is) (on_by_step old.state)

pub on_at : (s t : State) → t ≡ s → StaysAfterMark s t
on_at s t is = λ past h. subst (λ (u : State). IsAfterMark past u) (sym is) h
