-- The registers of the system handlers (ARM DDI 0403, "System Handler Priority Register 1" to 3, "System Handler
-- Control and State Register").
use Rattle.std.specs.Prelude.{ℕ, ◌+◌, ◌-◌, ◌^◌, ◌&&◌, ◌==◌, nat_le, nat_lt, if◌then◌else◌, Option, Some, None, Result}
use Rattle.std.specs.Prelude.{Ok, Err, bit_and}
use Rattle.instruction_set.specs.Registers.{mask_if}
use Rattle.instruction_set.specs.Words.{is_bit}
use Rattle.platform.specs.declared.exception.TheConstants.{MEM_MANAGE, BUS_FAULT, USAGE_FAULT, SV_CALL, PEND_SV}
use Rattle.platform.specs.declared.exception.TheConstants.{SYS_TICK}
use Rattle.platform.specs.declared.stop.Unsupported.TheVariants.{ActiveBit}
use Rattle.platform.specs.declared.stop.Stop.{Stop}
use Rattle.platform.specs.declared.stop.Stop.TheVariants.{OutOfProfile}
use Rattle.platform.specs.Priorities.{Nvic, is_in, is_enabled, with_enabled, with_pending}

-- SHPR1 to SHPR3: a priority byte for each system handler, from that of MemManage on
abbrev pub shpr_base : ℕ
shpr_base = 0xE000_ED18

-- the exception whose priority is the lowest byte of a word
unfoldable pub handler_priority_at : ℕ → Option ℕ
handler_priority_at word =
    if nat_le shpr_base word && nat_lt word (shpr_base + 12) then Some (MEM_MANAGE + (word - shpr_base)) else None

-- SHCSR has no state of its own: it reads the sets of Nvic, so it is 0 after a reset (`reset_nvic` of Priorities)

-- MEMFAULTACT, BUSFAULTACT, USGFAULTACT, SVCALLACT, PENDSVACT and SYSTICKACT
unfoldable pub handlers_active : Nvic → ℕ
handlers_active n =
    mask_if (is_in n.active MEM_MANAGE) (2 ^ 0)
    + mask_if (is_in n.active BUS_FAULT) (2 ^ 1)
    + mask_if (is_in n.active USAGE_FAULT) (2 ^ 3)
    + mask_if (is_in n.active SV_CALL) (2 ^ 7)
    + mask_if (is_in n.active PEND_SV) (2 ^ 10)
    + mask_if (is_in n.active SYS_TICK) (2 ^ 11)

-- USGFAULTPENDED, MEMFAULTPENDED, BUSFAULTPENDED and SVCALLPENDED
unfoldable pub handlers_pending : Nvic → ℕ
handlers_pending n =
    mask_if (is_in n.pending USAGE_FAULT) (2 ^ 12)
    + mask_if (is_in n.pending MEM_MANAGE) (2 ^ 13)
    + mask_if (is_in n.pending BUS_FAULT) (2 ^ 14)
    + mask_if (is_in n.pending SV_CALL) (2 ^ 15)

-- MEMFAULTENA, BUSFAULTENA and USGFAULTENA
unfoldable pub handlers_enabled : Nvic → ℕ
handlers_enabled n =
    mask_if (is_enabled n MEM_MANAGE) (2 ^ 16)
    + mask_if (is_enabled n BUS_FAULT) (2 ^ 17)
    + mask_if (is_enabled n USAGE_FAULT) (2 ^ 18)

unfoldable pub read_shcsr : Nvic → ℕ
read_shcsr n = handlers_active n + handlers_pending n + handlers_enabled n

-- the pending bits of a value
unfoldable pub with_handlers_pending : Nvic → ℕ → Nvic
with_handlers_pending n value =
    with_pending
    (with_pending
    (with_pending
    (with_pending n USAGE_FAULT (is_bit value 12))
    MEM_MANAGE (is_bit value 13))
    BUS_FAULT (is_bit value 14))
    SV_CALL (is_bit value 15)

-- the enable bits of a value
unfoldable pub with_handlers_enabled : Nvic → ℕ → Nvic
with_handlers_enabled n value =
    with_enabled
    (with_enabled
    (with_enabled n MEM_MANAGE (is_bit value 16))
    BUS_FAULT (is_bit value 17))
    USAGE_FAULT (is_bit value 18)

-- a write that would change an active bit is left out (profile)
unfoldable pub write_shcsr : Nvic → ℕ → Result Nvic Stop
write_shcsr n value =
    if bit_and value 0xC8B == handlers_active n
    then Ok (with_handlers_enabled (with_handlers_pending n value) value)
    else Err (OutOfProfile ActiveBit)
