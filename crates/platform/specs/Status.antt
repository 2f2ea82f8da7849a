-- The registers of configuration, and those that say what a fault was (ARM DDI 0403, "System Control Block": "Vector
-- Table Offset Register", "System Control Register", "Configuration and Control Register", "Configurable Fault Status
-- Register", "HardFault Status Register", "MemManage Fault Address Register" and "BusFault Address Register").
use Rattle.std.specs.Prelude.{ℕ, ◌-◌, ◌*◌, ◌/◌, ◌^◌, Bool, true, false, ◌==◌, if◌then◌else◌, Option, Some, None, Result}
use Rattle.std.specs.Prelude.{Ok, Err, bit_and, bit_or}
use Rattle.instruction_set.specs.Words.{is_bit}
use Rattle.platform.specs.declared.stop.Unsupported.TheVariants.{IgnoredBusFaults, SleepOnExit}
use Rattle.platform.specs.declared.stop.Stop.{Stop}
use Rattle.platform.specs.declared.stop.Stop.TheVariants.{OutOfProfile}
use Rattle.platform.specs.declared.system.StatusRegister.{StatusRegister}
use Rattle.platform.specs.declared.system.StatusRegister.TheVariants.{Vtor, Scr, Ccr, Cfsr, Hfsr, Mmfar, Bfar}

-- each register as it reads
pub record Status : Type 0 where
  pub vtor : ℕ
  pub scr : ℕ
  pub ccr : ℕ
  pub cfsr : ℕ
  pub hfsr : ℕ
  pub mmfar : ℕ
  pub bfar : ℕ

-- the register at an address, if there is one
unfoldable pub status_at : ℕ → Option StatusRegister
status_at word =
    if word == 0xE000_ED08 then Some Vtor
    else if word == 0xE000_ED10 then Some Scr
    else if word == 0xE000_ED14 then Some Ccr
    else if word == 0xE000_ED28 then Some Cfsr
    else if word == 0xE000_ED2C then Some Hfsr
    else if word == 0xE000_ED34 then Some Mmfar
    else if word == 0xE000_ED38 then Some Bfar
    else None

-- the registers that take bytes and halfwords: CFSR, which is three registers in one word
abbrev pub has_parts : StatusRegister → Bool
has_parts Vtor = false
has_parts Scr = false
has_parts Ccr = false
has_parts Cfsr = true
has_parts Hfsr = false
has_parts Mmfar = false
has_parts Bfar = false

-- what CCR keeps of a value: NONBASETHRDENA, USERSETMPEND, UNALIGN_TRP and DIV_0_TRP; STKALIGN, bit 9, is always 1
-- (profile)
abbrev pub ccr_of : ℕ → ℕ
ccr_of value = bit_or (bit_and value 0x1B) 0x200

-- after a reset; VTOR is the address of flash, and what the manual leaves UNKNOWN is 0 (profile)
abbrev pub reset_status : ℕ → Status
reset_status flash_base = record {
  vtor = flash_base;
  scr = 0;
  ccr = ccr_of 0;
  cfsr = 0;
  hfsr = 0;
  mmfar = 0;
  bfar = 0;
}

-- CCR.NONBASETHRDENA: a return to Thread mode is allowed even where another exception is active
abbrev pub nonbasethrdena : Status → Bool
nonbasethrdena st = is_bit st.ccr 0

-- CCR.USERSETMPEND: unprivileged code may write STIR
abbrev pub usersetmpend : Status → Bool
usersetmpend st = is_bit st.ccr 1

-- CCR.UNALIGN_TRP: an unaligned access is a UsageFault
abbrev pub unalign_trp : Status → Bool
unalign_trp st = is_bit st.ccr 3

-- CCR.DIV_0_TRP: a division by zero is a UsageFault
abbrev pub div_0_trp : Status → Bool
div_0_trp st = is_bit st.ccr 4

unfoldable pub read_status : Status → StatusRegister → ℕ
read_status st Vtor = st.vtor
read_status st Scr = st.scr
read_status st Ccr = st.ccr
read_status st Cfsr = st.cfsr
read_status st Hfsr = st.hfsr
read_status st Mmfar = st.mmfar
read_status st Bfar = st.bfar

-- SCR keeps SLEEPDEEP and SEVONPEND, which have no effect; SLEEPONEXIT is left out (profile)
abbrev pub write_scr : Status → ℕ → Result Status Stop
write_scr st value =
    if is_bit value 1 then Err (OutOfProfile SleepOnExit) else Ok (record st { scr = bit_and value 0x14 })

-- CCR.BFHFNMIGN is left out (profile)
abbrev pub write_ccr : Status → ℕ → Result Status Stop
write_ccr st value =
    if is_bit value 8 then Err (OutOfProfile IgnoredBusFaults) else Ok (record st { ccr = ccr_of value })

-- a word after a write of ones, each of which clears its bit
abbrev pub bits_cleared : ℕ → ℕ → ℕ
bits_cleared word ones = bit_and word (2 ^ 32 - 1 - ones)

-- the registers after a write of a word, or why it stops; VTOR keeps bits 31:7
unfoldable pub write_status : Status → StatusRegister → ℕ → Result Status Stop
write_status st Vtor value = Ok (record st { vtor = value / 2 ^ 7 * 2 ^ 7 })
write_status st Scr value = write_scr st value
write_status st Ccr value = write_ccr st value
write_status st Cfsr value = Ok (record st { cfsr = bits_cleared st.cfsr value })
write_status st Hfsr value = Ok (record st { hfsr = bits_cleared st.hfsr value })
write_status st Mmfar value = Ok (record st { mmfar = value })
write_status st Bfar value = Ok (record st { bfar = value })

-- what a fault leaves

-- bits of CFSR and of HFSR are set
abbrev pub with_fault_bits : Status → ℕ → ℕ → Status
with_fault_bits st cfsr hfsr = record st { cfsr = bit_or st.cfsr cfsr; hfsr = bit_or st.hfsr hfsr }

-- MMFAR: the address of an access that a rule refused. BFAR: of one that the bus refused
abbrev pub with_mmfar : Status → ℕ → Status
with_mmfar st address = record st { mmfar = address }

abbrev pub with_bfar : Status → ℕ → Status
with_bfar st address = record st { bfar = address }
