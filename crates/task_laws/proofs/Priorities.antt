-- Neither a tick nor an access of unprivileged code, nor one to a device, changes what the decision depends on: they
-- make exceptions pending.
use Rattle.std.proofs.Common.{◌≡◌, ℕ, ◌+◌, ◌*◌, ◌/◌, ◌%◌, ◌^◌, Bool, true, false, not, ◌||◌, ◌==◌, ◌∙◌, refl}
use Rattle.std.proofs.Common.{sym, ap, eqb-true}
use Rattle.std.proofs.lemmas.Bool.{cond_both, and_parts}
use Rattle.instruction_set.specs.Sizes.{is_word}
use Rattle.nvic.proofs.BelowZero.{below_zero}
use Rattle.nvic.proofs.Changes.{pended_kept}
use Rattle.platform.specs.declared.access.Request.{Request}
use Rattle.platform.specs.declared.access.Rule.{Rule}
use Rattle.platform.specs.declared.exception.TheConstants.{FIRST_INTERRUPT}
use Rattle.platform.specs.declared.system.ControlRegister.TheVariants as control
use Rattle.platform.specs.declared.system.SystemRegister.{SystemRegister}
use Rattle.platform.specs.declared.system.SystemRegister.TheVariants as register
use Rattle.platform.specs.Control.{control_at, write_control}
use Rattle.platform.specs.Handlers.{handler_priority_at}
use Rattle.platform.specs.Interrupts.{interrupts_at, interrupt_priority_at, stir_address, triggered}
use Rattle.platform.specs.Kinds.{is_load, is_store}
use Rattle.platform.specs.Outcomes.{Outcome}
use Rattle.platform.specs.Priorities.{Nvic, with_pending, is_below_zero}
use Rattle.platform.specs.Regions.{Mpu}
use Rattle.platform.specs.Status.{status_at, usersetmpend}
use Rattle.platform.specs.SysTickRegisters.{systick_at}
use Rattle.platform.specs.System.{System, register_at, has_access, has_width, after_read}
use Rattle.platform.specs.System.{register_written, register_access, system_access, with_pended, after_tick}
use Rattle.platform.specs.System.{device_access}
use Rattle.step_laws.proofs.Settling.{device_mpu, device_nvic, tick_mpu, tick_nvic}

-- the decision on an access depends on the registers m of the MPU, and on z: whether the execution priority is below 0
pub record Decides (m : Mpu) (z : Bool) (s : System) : Type 0 where
  pub mpu : s.mpu ≡ m
  pub below_zero : is_below_zero s.nvic ≡ z

-- ---- pending exceptions

-- an exception that becomes pending, or no longer is, leaves whether the execution priority is below 0
pub pending_alike : (n : Nvic) (x : ℕ) (on : Bool) → is_below_zero (with_pending n x on) ≡ is_below_zero n
pending_alike n x on = below_zero (with_pending n x on) ∙ sym (below_zero n)

-- what a tick makes pending leaves it too
pub pended_alike : (n : Nvic) (test : ℕ → Bool) → is_below_zero (with_pended n test) ≡ is_below_zero n
pended_alike n test =
    pended_kept (λ m. is_below_zero m ≡ is_below_zero n) test (λ m x e same. pending_alike m x true ∙ same) n refl

-- ---- the System Control Space

stir_is : register_at (stir_address / 4 * 4) ≡ register.Control control.Stir
unfolding register_at systick_at interrupts_at interrupt_priority_at control_at status_at handler_priority_at
stir_is = refl

-- unprivileged code has access to STIR alone
only_stir : (s : System) (q : Request) → q.access.privileged ≡ false → has_access s q ≡ true →
    register_at (q.access.address / 4 * 4) ≡ register.Control control.Stir
only_stir s q unprivileged access =
    let enabled = and_parts _ (usersetmpend s.status) (rw unprivileged at access) in
    let there = and_parts _ (q.access.address == stir_address) enabled.0 in
    ap (λ (a : ℕ). register_at (a / 4 * 4)) (eqb-true q.access.address stir_address there.1) ∙ stir_is

module _ (m : Mpu) (z : Bool) where
  -- a tick
  pub tick_decides : (s : System) → Decides m z s → Decides m z (after_tick s)
  tick_decides s d = record {
    mpu = tick_mpu s ∙ d.mpu;
    below_zero = tick_nvic (λ n. is_below_zero n ≡ z) (λ n test h. pended_alike n test ∙ h) s d.below_zero;
  }

  -- an access to a device
  pub device_decides : (s : System) (rule : Rule) (q : Request) → Decides m z s →
      Decides m z (device_access s rule q).after
  device_decides s rule q d = record {
    mpu = device_mpu s rule q ∙ d.mpu;
    below_zero = device_nvic (λ n. is_below_zero n ≡ z) (λ n test h. pended_alike n test ∙ h) s rule q d.below_zero;
  }

  -- m and z are what the decision depends on after an access
  abbrev LeavesDecided : Outcome System → Type 0
  LeavesDecided o = Decides m z o.after

  stir_decides : (x : ℕ) (s : System) (rule : Rule) (q : Request) → Decides m z s →
      LeavesDecided (register_access x s rule q (register.Control control.Stir))
  unfolding register_access register_written write_control has_width after_read triggered
  stir_decides x s rule q d =
      cond_both (not (has_access s q)) _ _ LeavesDecided (λ e. d)
      (λ e. cond_both (not (is_word q.access.size)) _ _ LeavesDecided (λ f. d)
      (λ f. cond_both (is_store q.access.kind) _ _ LeavesDecided
      (λ g. record {
        mpu = d.mpu;
        below_zero = pending_alike s.nvic (FIRST_INTERRUPT + q.value % 2 ^ 9) true ∙ d.below_zero;
      })
      (λ g. d)))

  refused_decides : (x : ℕ) (s : System) (rule : Rule) (q : Request) (which : SystemRegister) →
      has_access s q ≡ false → Decides m z s → LeavesDecided (register_access x s rule q which)
  unfolding register_access
  refused_decides x s rule q which refused d = rw refused d

  register_decides : (x : ℕ) (s : System) (rule : Rule) (q : Request) (access : Bool) → has_access s q ≡ access →
      q.access.privileged ≡ false → Decides m z s →
      LeavesDecided (register_access x s rule q (register_at (q.access.address / 4 * 4)))
  register_decides x s rule q true e unprivileged d = rw (only_stir s q unprivileged e) (stir_decides x s rule q d)
  register_decides x s rule q false e unprivileged d = refused_decides x s rule q _ e d

  -- an access of unprivileged code
  pub system_decides : (x : ℕ) (s : System) (rule : Rule) (q : Request) → q.access.privileged ≡ false →
      Decides m z s → Decides m z (system_access x s rule q).after
  unfolding system_access
  system_decides x s rule q unprivileged d =
      cond_both (is_load q.access.kind || is_store q.access.kind) _ _ LeavesDecided
      (λ e. register_decides x s rule q _ refl unprivileged d) (λ e. d)
