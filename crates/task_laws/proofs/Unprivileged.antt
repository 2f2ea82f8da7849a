-- Registers in unprivileged Thread mode: what an instruction leaves of them, and what MSR and CPS do there.
use Rattle.std.proofs.Common.{◌≡◌, ℕ, true, false, refl, ◌∙◌}
use Rattle.std.proofs.lemmas.Bool.{cond_both}
use Rattle.instruction_set.specs.declared.system.ChangeProcessorState.{ChangeProcessorState}
use Rattle.instruction_set.specs.declared.system.SpecialRegister.{SpecialRegister}
use Rattle.instruction_set.specs.declared.system.SpecialRegister.TheVariants.{Apsr, Iapsr, Eapsr, Xpsr}
use Rattle.instruction_set.specs.Registers.{Registers, is_handler, is_privileged}
use Rattle.platform.specs.Priorities.{Nvic}
use Rattle.platform.specs.SpecialRegisters.{is_written_unprivileged, with_special, write_special, write_mask}
use Rattle.platform.specs.SpecialRegisters.{change_state}
use Rattle.state_laws.proofs.Effects.{KeepsWrites}

-- IPSR is 0 and CONTROL.nPRIV is 1
pub record IsUnprivileged (r : Registers) : Type 0 where
  pub thread : r.exception ≡ 0
  pub unprivileged : r.unprivileged ≡ true

-- the mode isn't privileged
pub unprivileged_is : (r : Registers) → IsUnprivileged r → is_privileged r ≡ false
unprivileged_is r u = rw (u.thread, u.unprivileged) refl

-- it isn't Handler mode
pub not_handler : (r : Registers) → IsUnprivileged r → is_handler r ≡ true → ⊥
not_handler r u e = let w : false ≡ true = rw u.thread at e in cc

-- ---- an instruction

-- registers with the same IPSR and CONTROL.nPRIV
same_mode : (r s : Registers) → s.exception ≡ r.exception → s.unprivileged ≡ r.unprivileged → IsUnprivileged r →
    IsUnprivileged s
same_mode r s e f u = record { thread = e ∙ u.thread; unprivileged = f ∙ u.unprivileged }

-- an instruction writes neither
pub writes_kept : KeepsWrites IsUnprivileged
writes_kept = record {
  general = λ r n v word. same_mode r _ refl refl;
  msp = λ r v is. same_mode r _ refl refl;
  psp = λ r v is. same_mode r _ refl refl;
  lr = λ r v word. same_mode r _ refl refl;
  pc = λ r v is. same_mode r _ refl refl;
  next = λ r length. same_mode r _ refl refl;
  flags = λ r f. same_mode r _ refl refl;
  it_state = λ r it small. same_mode r _ refl refl;
  advanced = λ r. same_mode r _ refl refl;
  thumb = λ r on. same_mode r _ refl refl;
  monitor = λ r m. same_mode r _ refl refl;
}

-- ---- MSR and CPS

open_kept : (r : Registers) (special : SpecialRegister) (value : ℕ) → is_written_unprivileged special ≡ true
    → IsUnprivileged r →
    IsUnprivileged (with_special r special value)
unfolding with_special
open_kept r Apsr value e u = same_mode r _ refl refl u
open_kept r Iapsr value e u = same_mode r _ refl refl u
open_kept r Eapsr value e u = same_mode r _ refl refl u
open_kept r Xpsr value e u = same_mode r _ refl refl u
open_kept r special value e u = absurd cc

-- MSR writes the flags alone
pub special_kept : (r : Registers) (special : SpecialRegister) (value : ℕ) → IsUnprivileged r →
    IsUnprivileged (write_special r special value)
unfolding write_special
special_kept r special value u =
    rw (unprivileged_is r u)
    (cond_both (is_written_unprivileged special) _ _ IsUnprivileged (λ e. open_kept r special value e u) (λ e. u))

-- MSR writes no mask
pub mask_kept : (r : Registers) (n : Nvic) (special : SpecialRegister) (value : ℕ) → IsUnprivileged r →
    write_mask (is_privileged r) n special value ≡ n
unfolding write_mask
mask_kept r n special value u = rw (unprivileged_is r u) refl

-- CPS does nothing
pub state_kept : (r : Registers) (n : Nvic) (o : ChangeProcessorState) → IsUnprivileged r →
    change_state (is_privileged r) n o ≡ n
unfolding change_state
state_kept r n o u = rw (unprivileged_is r u) refl
