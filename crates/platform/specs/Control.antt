-- The registers of identification and of control: ICTR, SHCSR and STIR, whose parts are defined in `Interrupts` and
-- `Handlers`, and CPUID, ICSR and AIRCR (ARM DDI 0403, "CPUID Base Register", "Interrupt Control and
-- State Register", "Application Interrupt and Reset Control Register").
use Rattle.std.specs.Prelude.{ℕ, ◌+◌, ◌*◌, ◌/◌, ◌%◌, ◌^◌, Bool, true, false, not, ◌&&◌, ◌||◌, ◌==◌, if◌then◌else◌}
use Rattle.std.specs.Prelude.{Option, Some, None, Result, Ok, Err, unwrap_or}
use Rattle.instruction_set.specs.declared.unpredictable.UnpredictableCase.TheVariants as case
use Rattle.instruction_set.specs.Registers.{mask_if}
use Rattle.instruction_set.specs.Words.{is_bit}
use Rattle.platform.specs.declared.exception.TheConstants.{NMI, PEND_SV, SYS_TICK}
use Rattle.platform.specs.declared.stop.Unsupported.TheVariants.{ResetControl}
use Rattle.platform.specs.declared.stop.Stop.{Stop}
use Rattle.platform.specs.declared.stop.Stop.TheVariants.{Unpredictable, OutOfProfile, ResetRequested}
use Rattle.platform.specs.declared.system.ControlRegister.{ControlRegister}
use Rattle.platform.specs.declared.system.ControlRegister.TheVariants.{Ictr, Cpuid, Icsr, Aircr, Shcsr, Stir}
use Rattle.platform.specs.Handlers.{read_shcsr, write_shcsr}
use Rattle.platform.specs.Interrupts.{ictr, stir_address, triggered}
use Rattle.platform.specs.Priorities.{Nvic, is_in, best, is_interrupt_pending, is_other_active, with_pending}
use Rattle.platform.specs.Priorities.{with_group}

-- the register at an address, if there is one
unfoldable pub control_at : ℕ → Option ControlRegister
control_at word =
    if word == 0xE000_E004 then Some Ictr
    else if word == 0xE000_ED00 then Some Cpuid
    else if word == 0xE000_ED04 then Some Icsr
    else if word == 0xE000_ED0C then Some Aircr
    else if word == 0xE000_ED24 then Some Shcsr
    else if word == stir_address then Some Stir
    else None

-- ICSR.RETTOBASE: a handler runs, of exception x, and no other exception is active; it is UNKNOWN in Thread mode, and 0
-- here (profile)
abbrev pub rettobase : Nvic → ℕ → Bool
rettobase n x = not (x == 0) && not (is_other_active n x)

-- ICSR while IPSR is x: VECTACTIVE, RETTOBASE, VECTPENDING (whatever is masked or active, profile), ISRPENDING,
-- PENDSTSET, PENDSVSET and NMIPENDSET
unfoldable pub icsr : Nvic → ℕ → ℕ
icsr n x =
    x % 2 ^ 9
    + mask_if (rettobase n x) (2 ^ 11)
    + unwrap_or (best n) 0 * 2 ^ 12
    + mask_if (is_interrupt_pending n) (2 ^ 22)
    + mask_if (is_in n.pending SYS_TICK) (2 ^ 26)
    + mask_if (is_in n.pending PEND_SV) (2 ^ 28)
    + mask_if (is_in n.pending NMI) (2 ^ 31)

-- the exceptions after a write of x's set bit and clear bit; not both are 1
abbrev pub set_or_cleared : Nvic → ℕ → Bool → Bool → Nvic
set_or_cleared n x set clear =
    if set then with_pending n x true else if clear then with_pending n x false else n

-- a write to ICSR acts by NMIPENDSET, PENDSVSET and PENDSVCLR, PENDSTSET and PENDSTCLR; a set bit and its clear bit
-- together are UNPREDICTABLE
unfoldable pub write_icsr : Nvic → ℕ → Result Nvic Stop
write_icsr n value =
    if (is_bit value 28 && is_bit value 27) || (is_bit value 26 && is_bit value 25)
    then Err (Unpredictable case.Icsr)
    else
    Ok
    (set_or_cleared
    (set_or_cleared
    (set_or_cleared n NMI (is_bit value 31) false)
    PEND_SV (is_bit value 28) (is_bit value 27))
    SYS_TICK (is_bit value 26) (is_bit value 25))

-- a write to AIRCR is ignored unless VECTKEY is 0x05FA; then it sets PRIGROUP, or with SYSRESETREQ ends the run
-- (profile); VECTRESET and VECTCLRACTIVE are left out (profile)
unfoldable pub write_aircr : Nvic → ℕ → Result Nvic Stop
write_aircr n value =
    if not (value / 2 ^ 16 == 0x05FA) then Ok n
    else if is_bit value 0 || is_bit value 1 then Err (OutOfProfile ResetControl)
    else if is_bit value 2 then Err ResetRequested
    else Ok (with_group n (value / 2 ^ 8 % 8))

-- CPUID names no implementer, and the architecture as ARMv7-M (profile); AIRCR reads 0xFA05 in VECTKEYSTAT
unfoldable pub read_control : ℕ → Nvic → ControlRegister → ℕ
read_control x n Ictr = ictr n
read_control x n Cpuid = 0x000F_0000
read_control x n Icsr = icsr n x
read_control x n Aircr = 0xFA05_0000 + n.group * 2 ^ 8
read_control x n Shcsr = read_shcsr n
read_control x n Stir = 0

unfoldable pub write_control : Nvic → ControlRegister → ℕ → Result Nvic Stop
write_control n Ictr value = Ok n
write_control n Cpuid value = Ok n
write_control n Icsr value = write_icsr n value
write_control n Aircr value = write_aircr n value
write_control n Shcsr value = write_shcsr n value
write_control n Stir value = Ok (triggered n value)
