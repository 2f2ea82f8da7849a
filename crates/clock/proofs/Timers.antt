-- SYST_RVR and SYST_CVR keep to 24 bits: in a count, a read and a write.
use Rattle.std.proofs.Common.{◌-◌, ◌^◌, ◌<◌, ℕ, ◌==◌, arith}
use Rattle.std.proofs.lemmas.Bool.{cond_both}
use Rattle.platform.specs.declared.system.SysTickRegister.{SysTickRegister}
use Rattle.platform.specs.declared.system.SysTickRegister.TheVariants.{Csr, Rvr, Cvr}
use Rattle.platform.specs.SystemInvariant.{HasTimerBits}
use Rattle.platform.specs.SysTickRegisters.{after_systick_read, write_systick}
use Rattle.platform.specs.Time.{SysTick, counted}

pub counted_bits : (t : SysTick) → HasTimerBits t → HasTimerBits (counted t)
counted_bits t h = record {
  reload = h.reload;
  current =
      let less : t.current - 1 < 2 ^ 24 = let c = h.current in omega arith in
      cond_both t.enable _ _ (λ v. v < 2 ^ 24)
      (λ on. cond_both (t.current == 0) _ _ (λ v. v < 2 ^ 24) (λ e. h.reload) (λ e. less)) (λ off. h.current);
}

pub read_bits : (t : SysTick) (it : SysTickRegister) → HasTimerBits t → HasTimerBits (after_systick_read t it)
unfolding after_systick_read
read_bits t Csr h = record { reload = h.reload; current = h.current }
read_bits t Rvr h = h
read_bits t Cvr h = h

pub write_bits : (t : SysTick) (it : SysTickRegister) (value : ℕ) → HasTimerBits t →
    HasTimerBits (write_systick t it value)
unfolding write_systick
write_bits t Csr value h = record { reload = h.reload; current = h.current }
write_bits t Rvr value h = record { reload = omega arith; current = h.current }
write_bits t Cvr value h = record { reload = h.reload; current = omega arith }
