-- An access to the Private Peripheral Bus leaves each part of the System Control Space in which there are neither
-- registers of SysTick, nor exceptions, nor status registers, nor registers of the MPU.
use Rattle.std.proofs.Common.{◌≡◌, ℕ, ◌*◌, ◌/◌, not, ◌||◌, Result, Ok, Err, refl}
use Rattle.std.proofs.lemmas.Bool.{cond_both}
use Rattle.platform.specs.declared.access.Request.{Request}
use Rattle.platform.specs.declared.access.Rule.{Rule}
use Rattle.platform.specs.declared.mpu.MpuStop.{MpuStop}
use Rattle.platform.specs.declared.stop.Stop.{Stop}
use Rattle.platform.specs.declared.system.SystemRegister.{SystemRegister}
use Rattle.platform.specs.declared.system.SystemRegister.TheVariants as register
use Rattle.platform.specs.Control.{write_control}
use Rattle.platform.specs.Kinds.{is_load, is_store}
use Rattle.platform.specs.Outcomes.{Outcome}
use Rattle.platform.specs.Priorities.{Nvic}
use Rattle.platform.specs.Regions.{Mpu, write as write_mpu}
use Rattle.platform.specs.Status.{Status, write_status}
use Rattle.platform.specs.System.{System, after_read, has_access, has_width, in_place, mpu_written, nvic_written}
use Rattle.platform.specs.System.{register_access, register_at, register_written, status_written, system_access}
use Rattle.platform.specs.System.{with_nvic, with_systick, write_performed}
use Rattle.platform.specs.Time.{SysTick}

-- each change of a register leaves a part
pub record IsApart {A : Type 0} (part : System → A) : Type 0 where
  pub systick : (s : System) (t : SysTick) → part (with_systick s t) ≡ part s
  pub nvic : (s : System) (n : Nvic) → part (with_nvic s n) ≡ part s
  pub status : (s : System) (st : Status) → part (record s { status = st }) ≡ part s
  pub mpu : (s : System) (m : Mpu) → part (record s { mpu = m }) ≡ part s

module _ {A : Type 0} (part : System → A) (k : IsApart part) where
  abbrev LeftByWrite : System → Result System Stop → Type 0
  LeftByWrite s (Ok after) = part after ≡ part s
  LeftByWrite s (Err why) = Unit {0}

  by_nvic : (s : System) (r : Result Nvic Stop) → LeftByWrite s (nvic_written s r)
  by_nvic s (Ok n) = k.nvic s n
  by_nvic s (Err why) = tt

  by_status : (s : System) (r : Result Status Stop) → LeftByWrite s (status_written s r)
  by_status s (Ok st) = k.status s st
  by_status s (Err why) = tt

  by_mpu : (s : System) (r : Result Mpu MpuStop) → LeftByWrite s (mpu_written s r)
  by_mpu s (Ok m) = k.mpu s m
  by_mpu s (Err why) = tt

  left_by_write : (s : System) (q : Request) (it : SystemRegister) → LeftByWrite s (register_written s q it)
  unfolding register_written
  left_by_write s q (register.SysTick it) = k.systick s _
  left_by_write s q (register.Interrupts it word) = k.nvic s _
  left_by_write s q (register.Priorities first) = k.nvic s _
  left_by_write s q (register.Control it) = by_nvic s (write_control s.nvic it q.value)
  left_by_write s q (register.Status it) = by_status s (write_status s.status it (in_place q))
  left_by_write s q (register.Mpu it) = by_mpu s (write_mpu s.mpu it q.value)
  left_by_write s q register.Unlisted = refl

  left_by_read : (s : System) (it : SystemRegister) → part (after_read s it) ≡ part s
  unfolding after_read
  left_by_read s (register.SysTick it) = k.systick s _
  left_by_read s (register.Interrupts it word) = refl
  left_by_read s (register.Priorities first) = refl
  left_by_read s (register.Control it) = refl
  left_by_read s (register.Status it) = refl
  left_by_read s (register.Mpu it) = refl
  left_by_read s register.Unlisted = refl

  performed_part : (s : System) (rule : Rule) (r : Result System Stop) → LeftByWrite s r
      → part (write_performed s rule r).after ≡ part s
  performed_part s rule (Ok after) h = h
  performed_part s rule (Err why) h = refl

  abbrev Leaves : System → Outcome System → Type 0
  Leaves s o = part o.after ≡ part s

  register_part : (x : ℕ) (s : System) (rule : Rule) (q : Request) (it : SystemRegister)
      → Leaves s (register_access x s rule q it)
  unfolding register_access
  register_part x s rule q it =
      cond_both (not (has_access s q)) _ _ (Leaves s) (λ e. refl)
      (λ e. cond_both (not (has_width it q.access.size)) _ _ (Leaves s) (λ f. refl)
      (λ f. cond_both (is_store q.access.kind) _ _ (Leaves s)
      (λ g. performed_part s rule (register_written s q it) (left_by_write s q it)) (λ g. left_by_read s it)))

  pub system_part : (x : ℕ) (s : System) (rule : Rule) (q : Request) → Leaves s (system_access x s rule q)
  unfolding system_access
  system_part x s rule q =
      cond_both (is_load q.access.kind || is_store q.access.kind) _ _ (Leaves s)
      (λ e. register_part x s rule q (register_at (q.access.address / 4 * 4))) (λ e. refl)
