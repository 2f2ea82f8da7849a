-- The registers of SysTick (ARM DDI 0403, "System timer, SysTick": "SysTick Control and Status Register", "SysTick
-- Reload Value Register", "SysTick Current Value Register").
use Rattle.std.specs.Prelude.{ℕ, ◌==◌, if◌then◌else◌, Option, Some, None}
use Rattle.platform.specs.declared.system.SysTickRegister.{SysTickRegister}
use Rattle.platform.specs.declared.system.SysTickRegister.TheVariants.{Csr, Rvr, Cvr}
use Rattle.platform.specs.Time.{SysTick, csr, after_csr_read, with_csr, with_rvr, with_cvr_cleared}

-- the register at an address, if there is one
unfoldable pub systick_at : ℕ → Option SysTickRegister
systick_at word =
    if word == 0xE000_E010 then Some Csr
    else if word == 0xE000_E014 then Some Rvr
    else if word == 0xE000_E018 then Some Cvr
    else None

unfoldable pub read_systick : SysTick → SysTickRegister → ℕ
read_systick t Csr = csr t
read_systick t Rvr = t.reload
read_systick t Cvr = t.current

-- SysTick after a register was read
unfoldable pub after_systick_read : SysTick → SysTickRegister → SysTick
after_systick_read t Csr = after_csr_read t
after_systick_read t Rvr = t
after_systick_read t Cvr = t

unfoldable pub write_systick : SysTick → SysTickRegister → ℕ → SysTick
write_systick t Csr value = with_csr t value
write_systick t Rvr value = with_rvr t value
write_systick t Cvr value = with_cvr_cleared t
