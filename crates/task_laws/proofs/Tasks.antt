-- A task, part by part.
use Rattle.std.proofs.Common.{◌≡◌, ℕ, Bool, true, not, ◌&&◌, ◌==◌, is_some, Option, Some, None, refl, sym, ap}
use Rattle.std.proofs.Common.{◌∙◌, eqb-true}
use Rattle.std.proofs.lemmas.Bool.{and_parts, not-true, not-false}
use Rattle.platform.specs.Priorities.{is_below_zero}
use Rattle.platform.specs.Regions.{Mpu, is_on}
use Rattle.platform.specs.Rules.{is_off_below_zero}
use Rattle.reference.specs.State.{State}
use Rattle.platform.specs.System.{System}
use Rattle.task_laws.specs.Tasks.{runs_unprivileged, uses_regions}
use Rattle.task_laws.proofs.Priorities.{Decides}
use Rattle.task_laws.proofs.Unprivileged.{IsUnprivileged}

not_some : (o : Option ℕ) → not (is_some o) ≡ true → o ≡ None
not_some None e = refl
not_some (Some x) e = absurd cc

-- the parts of `runs_unprivileged`
pub record Parts (s : State) : Type 0 where
  pub thread : IsUnprivileged s.registers
  pub outside : s.entry ≡ None

pub parts_of : (s : State) → runs_unprivileged s ≡ true → Parts s
parts_of s e =
    let all = and_parts _ (not (is_some s.entry)) e in
    let mode = and_parts _ s.registers.unprivileged all.0 in
    record {
      thread = record {
        thread = eqb-true s.registers.exception 0 (not-false (s.registers.exception == 0) (not-true _ mode.0));
        unprivileged = mode.1;
      };
      outside = not_some s.entry all.1;
    }

pub has_parts : (s : State) → Parts s → runs_unprivileged s ≡ true
has_parts s p =
    ap (λ (x : ℕ). not (not (x == 0)) && s.registers.unprivileged && not (is_some s.entry)) p.thread.thread
    ∙ ap (λ (b : Bool). b && not (is_some s.entry)) p.thread.unprivileged
    ∙ ap (λ (o : Option ℕ). not (is_some o)) p.outside

-- ---- the regions

-- whether the regions decide, by what the decision depends on
abbrev uses : Mpu → Bool → Bool
uses m z = is_on m.control && not (is_off_below_zero m.control z)

uses_is : (m : Mpu) (z : Bool) (s : System) → Decides m z s → uses_regions s ≡ uses m z
uses_is m z s d = ap (λ (f : Mpu). uses f (is_below_zero s.nvic)) d.mpu ∙ ap (λ (b : Bool). uses m b) d.below_zero

-- where the regions decide in one state, they do in each in which the decision depends on the same
pub uses_kept : (m : Mpu) (z : Bool) (s u : System) → Decides m z s → Decides m z u → uses_regions s ≡ true →
    uses_regions u ≡ true
uses_kept m z s u d e h = uses_is m z u e ∙ sym (uses_is m z s d) ∙ h
