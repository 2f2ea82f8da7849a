-- The special registers: what MRS reads, and what MSR and CPS write (ARM DDI 0403, the operation of MRS, MSR and CPS).
-- The stack pointers, CONTROL and the parts of xPSR are in fields of `Registers`. The masks are in `Nvic`.
use Rattle.std.specs.Prelude.{ℕ, ◌+◌, ◌%◌, ◌^◌, Bool, true, false, not, ◌&&◌, ◌||◌, ◌==◌, nat_lt, if◌then◌else◌}
use Rattle.instruction_set.specs.declared.system.ChangeProcessorState.{ChangeProcessorState}
use Rattle.instruction_set.specs.declared.system.SpecialRegister.{SpecialRegister}
use Rattle.instruction_set.specs.declared.system.SpecialRegister.TheVariants.{Apsr, Iapsr, Eapsr, Xpsr, Ipsr, Epsr}
use Rattle.instruction_set.specs.declared.system.SpecialRegister.TheVariants.{Iepsr, Msp, Psp, Primask, Basepri}
use Rattle.instruction_set.specs.declared.system.SpecialRegister.TheVariants.{BasepriMax, Faultmask, Control}
use Rattle.instruction_set.specs.Registers.{Registers, is_privileged, apsr, flags_of, control, stack_pointer, mask_if}
use Rattle.instruction_set.specs.Registers.{control_written}
use Rattle.instruction_set.specs.Words.{is_bit}
use Rattle.platform.specs.declared.exception.Masks.{Masks}
use Rattle.platform.specs.Priorities.{Nvic, execution_priority, hard_fault_priority, implemented_bits, with_primask}
use Rattle.platform.specs.Priorities.{with_faultmask, with_basepri}

-- ---- MRS

-- the registers that unprivileged code reads as 0: the stack pointers and the masks
abbrev pub is_read_as_zero : SpecialRegister → Bool
is_read_as_zero Apsr = false
is_read_as_zero Iapsr = false
is_read_as_zero Eapsr = false
is_read_as_zero Xpsr = false
is_read_as_zero Ipsr = false
is_read_as_zero Epsr = false
is_read_as_zero Iepsr = false
is_read_as_zero Msp = true
is_read_as_zero Psp = true
is_read_as_zero Primask = true
is_read_as_zero Basepri = true
is_read_as_zero BasepriMax = true
is_read_as_zero Faultmask = true
is_read_as_zero Control = false

-- what privileged code reads: EPSR is 0, and BASEPRI_MAX is BASEPRI
unfoldable pub special_value : Registers → Masks → SpecialRegister → ℕ
special_value r m Apsr = apsr r.flags
special_value r m Iapsr = apsr r.flags + r.exception
special_value r m Eapsr = apsr r.flags
special_value r m Xpsr = apsr r.flags + r.exception
special_value r m Ipsr = r.exception
special_value r m Epsr = 0
special_value r m Iepsr = r.exception
special_value r m Msp = r.msp
special_value r m Psp = r.psp
special_value r m Primask = mask_if m.primask 1
special_value r m Basepri = m.basepri
special_value r m BasepriMax = m.basepri
special_value r m Faultmask = mask_if m.faultmask 1
special_value r m Control = control r

-- what MRS reads
unfoldable pub read_special : Registers → Masks → SpecialRegister → ℕ
read_special r m special = if is_read_as_zero special && not (is_privileged r) then 0 else special_value r m special

-- ---- MSR, registers

-- what privileged code writes; the flags of APSR are the only bits of a program status register that MSR writes
unfoldable pub with_special : Registers → SpecialRegister → ℕ → Registers
with_special r Apsr value = record r { flags = flags_of value }
with_special r Iapsr value = record r { flags = flags_of value }
with_special r Eapsr value = record r { flags = flags_of value }
with_special r Xpsr value = record r { flags = flags_of value }
with_special r Ipsr value = r
with_special r Epsr value = r
with_special r Iepsr value = r
with_special r Msp value = record r { msp = stack_pointer value }
with_special r Psp value = record r { psp = stack_pointer value }
with_special r Primask value = r
with_special r Basepri value = r
with_special r BasepriMax value = r
with_special r Faultmask value = r
with_special r Control value = control_written r value

-- the registers that unprivileged code writes: APSR, alone or with others
abbrev pub is_written_unprivileged : SpecialRegister → Bool
is_written_unprivileged Apsr = true
is_written_unprivileged Iapsr = true
is_written_unprivileged Eapsr = true
is_written_unprivileged Xpsr = true
is_written_unprivileged Ipsr = false
is_written_unprivileged Epsr = false
is_written_unprivileged Iepsr = false
is_written_unprivileged Msp = false
is_written_unprivileged Psp = false
is_written_unprivileged Primask = false
is_written_unprivileged Basepri = false
is_written_unprivileged BasepriMax = false
is_written_unprivileged Faultmask = false
is_written_unprivileged Control = false

-- the registers after MSR
unfoldable pub write_special : Registers → SpecialRegister → ℕ → Registers
write_special r special value = if is_privileged r
    || is_written_unprivileged special then with_special r special value else r

-- ---- MSR, masks

-- FAULTMASK can be set only at an execution priority above -1, and can always be cleared (by MSR: profile)
unfoldable pub faultmask_written : Nvic → Bool → Nvic
faultmask_written n on =
    if not on || nat_lt hard_fault_priority (execution_priority n) then with_faultmask n on else n

-- whether BASEPRI_MAX takes a value: it isn't 0, and it masks more than BASEPRI does
abbrev pub is_tighter : ℕ → ℕ → Bool
is_tighter basepri value = not (value == 0) && (nat_lt value basepri || (basepri == 0))

-- a write to BASEPRI_MAX compares the bits that are kept (profile)
unfoldable pub basepri_max_written : Nvic → ℕ → Nvic
basepri_max_written n byte =
    if is_tighter n.masks.basepri (implemented_bits n.priority_bits byte) then with_basepri n byte else n

-- what privileged code writes: bit 0 of a value to PRIMASK and FAULTMASK, bits 7:0 to BASEPRI
unfoldable pub with_mask : Nvic → SpecialRegister → ℕ → Nvic
with_mask n Apsr value = n
with_mask n Iapsr value = n
with_mask n Eapsr value = n
with_mask n Xpsr value = n
with_mask n Ipsr value = n
with_mask n Epsr value = n
with_mask n Iepsr value = n
with_mask n Msp value = n
with_mask n Psp value = n
with_mask n Primask value = with_primask n (is_bit value 0)
with_mask n Basepri value = with_basepri n (value % 2 ^ 8)
with_mask n BasepriMax value = basepri_max_written n (value % 2 ^ 8)
with_mask n Faultmask value = faultmask_written n (is_bit value 0)
with_mask n Control value = n

-- the masks after MSR by code that is privileged or not
unfoldable pub write_mask : Bool → Nvic → SpecialRegister → ℕ → Nvic
write_mask privileged n special value = if privileged then with_mask n special value else n

-- ---- CPS

-- PRIMASK becomes `on` where the instruction names it; FAULTMASK too, where `faultmask_written` allows it
abbrev pub with_primask_if : Bool → Nvic → Bool → Nvic
with_primask_if named n on = if named then with_primask n on else n

abbrev pub with_faultmask_if : Bool → Nvic → Bool → Nvic
with_faultmask_if named n on = if named then faultmask_written n on else n

-- the masks after CPS by code that is privileged or not
unfoldable pub change_state : Bool → Nvic → ChangeProcessorState → Nvic
change_state privileged n o =
    if privileged
    then with_faultmask_if o.faultmask (with_primask_if o.primask n o.disables) o.disables
    else n
