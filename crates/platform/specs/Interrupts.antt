-- The registers of the external interrupts (ARM DDI 0403, "Nested Vectored Interrupt Controller": "Interrupt Controller
-- Type Register", "Interrupt Set-Enable Registers" and those that follow, "Software Triggered Interrupt Register"). An
-- interrupt that the board doesn't have reads 0 and ignores writes, since no set has it and no change reaches it.
use Rattle.std.specs.Prelude.{ℕ, zero, suc, ◌+◌, ◌-◌, ◌*◌, ◌/◌, ◌%◌, ◌^◌, Bool, true, false, ◌&&◌, ◌==◌, nat_le, nat_lt}
use Rattle.std.specs.Prelude.{if◌then◌else◌, slice_index, Option, Some, None}
use Rattle.instruction_set.specs.Registers.{mask_if}
use Rattle.instruction_set.specs.Words.{is_bit}
use Rattle.platform.specs.declared.exception.TheConstants.{FIRST_INTERRUPT, MAX_INTERRUPTS}
use Rattle.platform.specs.declared.system.InterruptRegister.{InterruptRegister}
use Rattle.platform.specs.declared.system.InterruptRegister.TheVariants.{Iser, Icer, Ispr, Icpr, Iabr}
use Rattle.platform.specs.Priorities.{Nvic, is_in, is_enabled, with_enabled, with_pending, with_priority}

-- ICTR: the words of ISER that the board's interrupts need, less 1, and 0 where it has no interrupt
abbrev pub ictr : Nvic → ℕ
ictr n = (n.interrupts - 1) / 32

-- ISER, ICER, ISPR, ICPR and IABR: eight words each, with a bit for each interrupt

-- the register at an address, if there is one; word k of a register is 4 * k bytes from its first
unfoldable pub interrupts_at : ℕ → Option InterruptRegister
interrupts_at word =
    let first = word / 32 * 32 in
    if first == 0xE000_E100 then Some Iser
    else if first == 0xE000_E180 then Some Icer
    else if first == 0xE000_E200 then Some Ispr
    else if first == 0xE000_E280 then Some Icpr
    else if first == 0xE000_E300 then Some Iabr
    else None

abbrev pub word_number : ℕ → ℕ
word_number word = word / 4 % 8

-- the exception of bit 0 in word k
abbrev pub first_exception : ℕ → ℕ
first_exception k = FIRST_INTERRUPT + 32 * k

-- whether a register reads 1 at exception x
abbrev pub reads_one : Nvic → InterruptRegister → ℕ → Bool
reads_one n Iser x = is_enabled n x
reads_one n Icer x = is_enabled n x
reads_one n Ispr x = is_in n.pending x
reads_one n Icpr x = is_in n.pending x
reads_one n Iabr x = is_in n.active x

-- bits 0 to k - 1 of the word whose bit 0 is for exception x; k is the last argument
unfoldable pub read_below : Nvic → InterruptRegister → ℕ → ℕ → ℕ
read_below n register x zero = 0
read_below n register x (suc bit) = read_below n register x bit + mask_if (reads_one n register (x + bit)) (2 ^ bit)

unfoldable pub read_interrupts : Nvic → InterruptRegister → ℕ → ℕ
read_interrupts n register k = read_below n register (first_exception k) 32

-- what a 1 written to the bit of exception x does. After a 1 written to its bit of ICPR, an interrupt that only stays
-- high makes its interrupt pending again no sooner than when the interrupt is deactivated (profile)
unfoldable pub with_one : Nvic → InterruptRegister → ℕ → Nvic
with_one n Iser x = with_enabled n x true
with_one n Icer x = with_enabled n x false
with_one n Ispr x = with_pending n x true
with_one n Icpr x = with_pending n x false
with_one n Iabr x = n

-- what bit `bit` of a value does, where bit 0 of the value is exception x
unfoldable pub with_bit : Nvic → InterruptRegister → ℕ → ℕ → ℕ → Nvic
with_bit n register x value bit = if is_bit value bit then with_one n register (x + bit) else n

-- what bits 0 to k - 1 of a value do; k is the last argument
unfoldable pub with_bits_below : Nvic → InterruptRegister → ℕ → ℕ → ℕ → Nvic
with_bits_below n register x value zero = n
with_bits_below n register x value (suc bit) = with_bit (with_bits_below n register x value bit) register x value bit

unfoldable pub write_interrupts : Nvic → InterruptRegister → ℕ → ℕ → Nvic
write_interrupts n register k value = with_bits_below n register (first_exception k) value 32

-- IPR: a priority byte for each interrupt
abbrev pub ipr_base : ℕ
ipr_base = 0xE000_E400

-- the exception whose priority is the lowest byte of a word
unfoldable pub interrupt_priority_at : ℕ → Option ℕ
interrupt_priority_at word =
    if nat_le ipr_base word && nat_lt word (ipr_base + MAX_INTERRUPTS) then Some
    (FIRST_INTERRUPT + (word - ipr_base)) else None

-- the priority bytes of four exceptions, x and those that follow, as a word; one that has no priority reads 0
unfoldable pub read_priorities : Nvic → ℕ → ℕ
read_priorities n x =
    slice_index n.priorities x
    + slice_index n.priorities (x + 1) * 2 ^ 8
    + slice_index n.priorities (x + 2) * 2 ^ 16
    + slice_index n.priorities (x + 3) * 2 ^ 24

-- the priorities of `count` exceptions, from x on, become the bytes of a value, from the lowest on
unfoldable pub write_priorities : Nvic → ℕ → ℕ → ℕ → Nvic
write_priorities n x value zero = n
write_priorities n x value (suc count) =
    with_priority (write_priorities n x value count) (x + count) (value / 2 ^ (8 * count) % 2 ^ 8)

abbrev pub stir_address : ℕ
stir_address = 0xE000_EF00

-- a write to STIR: the interrupt whose number is in bits 8:0 becomes pending
unfoldable pub triggered : Nvic → ℕ → Nvic
triggered n value = with_pending n (FIRST_INTERRUPT + value % 2 ^ 9) true
