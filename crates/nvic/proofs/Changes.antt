-- If eight small changes of the exceptions keep a property, so does each write of a register or mask, each tick, and a
-- handler that begins.
--
-- - `IsPreserved P` has a field for each small change. An instance proves these eight, and has all that follows.
-- - A register of sets changes one bit after another: `one_kept`, `bit_kept`, then all by induction (`bits_kept`).
-- - A register of control is a few small changes, each under a test: `cond_both` takes both branches.
-- - A tick makes pending what a test says, one exception after another (`pended_below`), so `MayPend` asks for the
--   one small change where the test holds.
use Rattle.std.proofs.Common.{◌≡◌, ℕ, zero, suc, ◌+◌, ◌*◌, ◌/◌, ◌%◌, ◌^◌, ◌<◌, Bool, true, false, not, ◌&&◌, ◌||◌}
use Rattle.std.proofs.Common.{◌==◌, nat_lt, bit_and, Result, Ok, Err, arith}
use Rattle.std.proofs.lemmas.Bool.{cond_both}
use Rattle.instruction_set.specs.declared.system.ChangeProcessorState.{ChangeProcessorState}
use Rattle.instruction_set.specs.declared.system.SpecialRegister.{SpecialRegister}
use Rattle.instruction_set.specs.declared.system.SpecialRegister.TheVariants.{Apsr, Iapsr, Eapsr, Xpsr, Ipsr, Epsr}
use Rattle.instruction_set.specs.declared.system.SpecialRegister.TheVariants.{Iepsr, Msp, Psp, Primask, Basepri}
use Rattle.instruction_set.specs.declared.system.SpecialRegister.TheVariants.{BasepriMax, Faultmask, Control}
use Rattle.instruction_set.specs.Words.{is_bit}
use Rattle.platform.specs.declared.exception.TheConstants.{NMI, MEM_MANAGE, BUS_FAULT, USAGE_FAULT, SV_CALL, PEND_SV}
use Rattle.platform.specs.declared.exception.TheConstants.{SYS_TICK, FIRST_INTERRUPT, EXCEPTIONS}
use Rattle.platform.specs.declared.stop.Stop.{Stop}
use Rattle.platform.specs.declared.system.ControlRegister.{ControlRegister}
use Rattle.platform.specs.declared.system.ControlRegister.TheVariants.{Ictr, Cpuid, Icsr, Aircr, Shcsr, Stir}
use Rattle.platform.specs.declared.system.InterruptRegister.{InterruptRegister}
use Rattle.platform.specs.declared.system.InterruptRegister.TheVariants.{Iser, Icer, Ispr, Icpr, Iabr}
use Rattle.platform.specs.Control.{set_or_cleared, write_icsr, write_aircr, write_control}
use Rattle.platform.specs.Priorities.{activated}
use Rattle.platform.specs.Handlers.{handlers_active, with_handlers_pending, with_handlers_enabled, write_shcsr}
use Rattle.platform.specs.Interrupts.{first_exception, with_one, with_bit, with_bits_below, write_interrupts}
use Rattle.platform.specs.Interrupts.{write_priorities, triggered}
use Rattle.platform.specs.Priorities.{Nvic, execution_priority, hard_fault_priority, implemented_bits, with_pending}
use Rattle.platform.specs.Priorities.{with_active}
use Rattle.platform.specs.Priorities.{with_enabled, with_priority, with_group, with_primask, with_faultmask}
use Rattle.platform.specs.Priorities.{with_basepri}
use Rattle.platform.specs.SpecialRegisters.{faultmask_written, is_tighter, basepri_max_written, with_mask, write_mask}
use Rattle.platform.specs.SpecialRegisters.{with_primask_if, with_faultmask_if, change_state}
use Rattle.platform.specs.System.{with_pended_at, with_pended_below, with_pended}

-- what holds of the state after a write, where it doesn't stop
abbrev pub IfDone : {A : Type 0} → (A → Type 0) → Result A Stop → Type 0
IfDone P (Ok after) = P after
IfDone P (Err why) = Unit {0}

-- each small change keeps a property
pub record IsPreserved (P : Nvic → Type 0) : Type 0 where
  pub pending : (n : Nvic) (x : ℕ) (on : Bool) → P n → P (with_pending n x on)
  pub active : (n : Nvic) (x : ℕ) (on : Bool) → P n → P (with_active n x on)
  pub enabled : (n : Nvic) (x : ℕ) (on : Bool) → P n → P (with_enabled n x on)
  pub priority : (n : Nvic) (x b : ℕ) → b < 2 ^ 8 → P n → P (with_priority n x b)
  pub group : (n : Nvic) (g : ℕ) → P n → P (with_group n g)
  pub primask : (n : Nvic) (on : Bool) → P n → P (with_primask n on)
  pub faultmask : (n : Nvic) (on : Bool) → P n → P (with_faultmask n on)
  pub basepri : (n : Nvic) (b : ℕ) → b < 2 ^ 8 → P n → P (with_basepri n b)

-- ---- what the small changes keep, each write keeps

module _ {P : Nvic → Type 0} (k : IsPreserved P) where
  -- ---- the interrupts' registers

  one_kept : (n : Nvic) (register : InterruptRegister) (x : ℕ) → P n
      → P (with_one n register x)
  unfolding with_one
  one_kept n Iser x p = k.enabled n x true p
  one_kept n Icer x p = k.enabled n x false p
  one_kept n Ispr x p = k.pending n x true p
  one_kept n Icpr x p = k.pending n x false p
  one_kept n Iabr x p = p

  bit_kept : (n : Nvic) (register : InterruptRegister) (x value bit : ℕ) → P n
      → P (with_bit n register x value bit)
  unfolding with_bit
  bit_kept n register x value bit p =
      cond_both (is_bit value bit) _ _ P (λ e. one_kept n register (x + bit) p) (λ e. p)

  bits_kept : (n : Nvic) (register : InterruptRegister) (x value count : ℕ) → P n
      → P (with_bits_below n register x value count)
  unfolding with_bits_below
  bits_kept n register x value zero p = p
  bits_kept n register x value (suc bit) p =
      bit_kept (with_bits_below n register x value bit) register x value bit (bits_kept n register x value bit p)

  pub interrupts_kept : (n : Nvic) (register : InterruptRegister) (word value : ℕ)
      → P n → P (write_interrupts n register word value)
  unfolding write_interrupts
  interrupts_kept n register word value p = bits_kept n register (first_exception word) value 32 p

  pub priorities_kept : (n : Nvic) (x value count : ℕ) → P n
      → P (write_priorities n x value count)
  unfolding write_priorities
  priorities_kept n x value zero p = p
  priorities_kept n x value (suc count) p =
      k.priority (write_priorities n x value count) (x + count) (value / 2 ^ (8 * count) % 2 ^ 8) (omega arith)
      (priorities_kept n x value count p)

  pub triggered_kept : (n : Nvic) (value : ℕ) → P n → P (triggered n value)
  unfolding triggered
  triggered_kept n value p = k.pending n (FIRST_INTERRUPT + value % 2 ^ 9) true p

  -- ---- the registers of control and of the system handlers

  set_kept : (n : Nvic) (x : ℕ) (set clear : Bool) → P n
      → P (set_or_cleared n x set clear)
  set_kept n x true clear p = k.pending n x true p
  set_kept n x false true p = k.pending n x false p
  set_kept n x false false p = p

  icsr_kept : (n : Nvic) (value : ℕ) → P n → IfDone P (write_icsr n value)
  unfolding write_icsr
  icsr_kept n value p =
      cond_both ((is_bit value 28 && is_bit value 27) || (is_bit value 26 && is_bit value 25)) _ _ (IfDone P) (λ e. tt)
      (λ e.
      let nmi = set_kept n NMI (is_bit value 31) false p in
      let pend_sv = set_kept _ PEND_SV (is_bit value 28) (is_bit value 27) nmi in
      set_kept _ SYS_TICK (is_bit value 26) (is_bit value 25) pend_sv)

  aircr_kept : (n : Nvic) (value : ℕ) → P n → IfDone P (write_aircr n value)
  unfolding write_aircr
  aircr_kept n value p =
      cond_both (not (value / 2 ^ 16 == 0x05FA)) _ _ (IfDone P) (λ e. p)
      (λ e. cond_both (is_bit value 0 || is_bit value 1) _ _ (IfDone P) (λ f. tt)
      (λ f. cond_both (is_bit value 2) _ _ (IfDone P) (λ g. tt) (λ g. k.group n (value / 2 ^ 8 % 8) p)))

  handlers_pending_kept : (n : Nvic) (value : ℕ) → P n
      → P (with_handlers_pending n value)
  unfolding with_handlers_pending
  handlers_pending_kept n value p =
      k.pending _ SV_CALL _ (k.pending _ BUS_FAULT _ (k.pending _ MEM_MANAGE _ (k.pending n USAGE_FAULT _ p)))

  handlers_enabled_kept : (n : Nvic) (value : ℕ) → P n
      → P (with_handlers_enabled n value)
  unfolding with_handlers_enabled
  handlers_enabled_kept n value p =
      k.enabled _ USAGE_FAULT _ (k.enabled _ BUS_FAULT _ (k.enabled n MEM_MANAGE _ p))

  pub shcsr_kept : (n : Nvic) (value : ℕ) → P n → IfDone P (write_shcsr n value)
  unfolding write_shcsr
  shcsr_kept n value p =
      cond_both (bit_and value 0xC8B == handlers_active n) _ _ (IfDone P)
      (λ e. handlers_enabled_kept (with_handlers_pending n value) value (handlers_pending_kept n value p))
      (λ e. tt)

  pub control_kept : (n : Nvic) (it : ControlRegister) (value : ℕ) → P n
      → IfDone P (write_control n it value)
  unfolding write_control
  control_kept n Ictr value p = p
  control_kept n Cpuid value p = p
  control_kept n Icsr value p = icsr_kept n value p
  control_kept n Aircr value p = aircr_kept n value p
  control_kept n Shcsr value p = shcsr_kept n value p
  control_kept n Stir value p = triggered_kept n value p

  -- ---- the masks

  faultmask_kept : (n : Nvic) (on : Bool) → P n → P (faultmask_written n on)
  unfolding faultmask_written
  faultmask_kept n on p =
      cond_both (not on || nat_lt hard_fault_priority (execution_priority n)) _ _ P (λ e. k.faultmask n on p) (λ e. p)

  basepri_max_kept : (n : Nvic) (byte : ℕ) → byte < 2 ^ 8 → P n
      → P (basepri_max_written n byte)
  unfolding basepri_max_written
  basepri_max_kept n byte small p =
      cond_both (is_tighter n.masks.basepri (implemented_bits n.priority_bits byte)) _ _ P
      (λ e. k.basepri n byte small p) (λ e. p)

  pub mask_kept : (n : Nvic) (special : SpecialRegister) (value : ℕ) → P n
      → P (with_mask n special value)
  unfolding with_mask
  mask_kept n Apsr value p = p
  mask_kept n Iapsr value p = p
  mask_kept n Eapsr value p = p
  mask_kept n Xpsr value p = p
  mask_kept n Ipsr value p = p
  mask_kept n Epsr value p = p
  mask_kept n Iepsr value p = p
  mask_kept n Msp value p = p
  mask_kept n Psp value p = p
  mask_kept n Primask value p = k.primask n (is_bit value 0) p
  mask_kept n Basepri value p = k.basepri n (value % 2 ^ 8) (omega arith) p
  mask_kept n BasepriMax value p = basepri_max_kept n (value % 2 ^ 8) (omega arith) p
  mask_kept n Faultmask value p = faultmask_kept n (is_bit value 0) p
  mask_kept n Control value p = p

  pub write_mask_kept : (privileged : Bool) (n : Nvic) (special : SpecialRegister)
      (value : ℕ) → P n → P (write_mask privileged n special value)
  unfolding write_mask
  write_mask_kept privileged n special value p =
      cond_both privileged _ _ P (λ e. mask_kept n special value p) (λ e. p)

  primask_if_kept : (named : Bool) (n : Nvic) (on : Bool) → P n
      → P (with_primask_if named n on)
  primask_if_kept named n on p = cond_both named _ _ P (λ e. k.primask n on p) (λ e. p)

  faultmask_if_kept : (named : Bool) (n : Nvic) (on : Bool) → P n
      → P (with_faultmask_if named n on)
  faultmask_if_kept named n on p = cond_both named _ _ P (λ e. faultmask_kept n on p) (λ e. p)

  pub state_kept : (privileged : Bool) (n : Nvic) (o : ChangeProcessorState) → P n
      → P (change_state privileged n o)
  unfolding change_state
  state_kept privileged n o p =
      cond_both privileged _ _ P
      (λ e. faultmask_if_kept o.faultmask _ o.disables (primask_if_kept o.primask n o.disables p)) (λ e. p)

  -- ---- a handler begins

  pub activated_kept : (n : Nvic) (x : ℕ) → P n → P (activated n x)
  activated_kept n x p = k.active (with_pending n x false) x true (k.pending n x false p)

-- ---- a tick

-- an exception for which the test holds becomes pending
abbrev pub MayPend : (Nvic → Type 0) → (ℕ → Bool) → Type 0
MayPend P test = (n : Nvic) (x : ℕ) → test x ≡ true → P n → P (with_pending n x true)

module _ (P : Nvic → Type 0) (test : ℕ → Bool) (k : MayPend P test) where
  pended_at : (n : Nvic) (x : ℕ) → P n
      → P (with_pended_at n test x)
  unfolding with_pended_at
  pended_at n x p = cond_both (test x) _ _ P (λ e. k n x e p) (λ e. p)

  pended_below : (n : Nvic) (x : ℕ) → P n
      → P (with_pended_below n test x)
  unfolding with_pended_below
  pended_below n zero p = p
  pended_below n (suc x) p = pended_at (with_pended_below n test x) x (pended_below n x p)

  pub pended_kept : (n : Nvic) → P n → P (with_pended n test)
  unfolding with_pended
  pended_kept n p = pended_below n EXCEPTIONS p
