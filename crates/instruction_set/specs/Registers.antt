-- The core registers (ARM DDI 0403, "Registers" of the programmers' model, and the pseudocode of R[]).
use Rattle.std.specs.Prelude.{ℕ, ◌+◌, ◌*◌, ◌/◌, ◌%◌, ◌^◌, Bool, false, not, ◌&&◌, ◌||◌, ◌==◌, if◌then◌else◌, List}
use Rattle.std.specs.Prelude.{Option, None, slice_index, slice_set, replicate}
use Rattle.instruction_set.specs.declared.registers.Flags.{Flags}
use Rattle.instruction_set.specs.declared.registers.Marked.{Marked}
use Rattle.instruction_set.specs.Words.{low_word, word_sum, is_bit}

pub record Registers : Type 0 where
  -- R0 to R12
  pub general : List ℕ
  -- the two stack pointers, main and process
  pub msp : ℕ
  pub psp : ℕ
  pub lr : ℕ
  -- the address of the instruction that is executed, or between steps that of the next one
  pub pc : ℕ
  -- the flags of APSR
  pub flags : Flags
  -- the eight bits of EPSR.IT, and EPSR.T
  pub it_state : ℕ
  pub thumb : Bool
  -- IPSR: the number of the exception whose handler runs, 0 in Thread mode
  pub exception : ℕ
  -- CONTROL.nPRIV and CONTROL.SPSEL
  pub unprivileged : Bool
  pub process_stack : Bool
  -- the local monitor: what the last load exclusive marked, or nothing in the Open Access state
  pub monitor : Option Marked

-- Handler mode: IPSR isn't 0
abbrev pub is_handler : Registers → Bool
is_handler r = not (r.exception == 0)

-- CurrentModeIsPrivileged()
abbrev pub is_privileged : Registers → Bool
is_privileged r = is_handler r || not r.unprivileged

-- whether SP is PSP: LookUpSP()
abbrev pub uses_psp : Registers → Bool
uses_psp r = not (is_handler r) && r.process_stack

-- SP, the stack pointer in use
abbrev pub sp : Registers → ℕ
sp r = if uses_psp r then r.psp else r.msp

-- R[n], where PC reads as the address of the instruction and 4 more
abbrev pub register : Registers → ℕ → ℕ
register r n =
    if n == 13 then sp r
    else if n == 14 then r.lr
    else if n == 15 then word_sum r.pc 4
    else slice_index r.general n

-- a value as a stack pointer takes it: a word whose bits 1:0 are cleared
abbrev pub stack_pointer : ℕ → ℕ
stack_pointer v = low_word v / 4 * 4

-- SP = v
abbrev pub with_sp : Registers → ℕ → Registers
with_sp r v = if uses_psp r then record r { psp = stack_pointer v } else record r { msp = stack_pointer v }

-- an address as the PC takes it: a word whose bit 0 is cleared
abbrev pub code_address : ℕ → ℕ
code_address v = low_word v / 2 * 2

-- BranchWritePC(v)
abbrev pub with_pc : Registers → ℕ → Registers
with_pc r v = record r { pc = code_address v }

-- BLXWritePC(v): PC = v with bit 0 cleared, T = bit 0 of v
abbrev pub with_exchange : Registers → ℕ → Registers
with_exchange r v = record (with_pc r v) { thumb = is_bit v 0 }

-- R[n] = v, of which 32 bits are kept. The manual's R[] can't write the PC: n = 15 is BranchWritePC(v) here
abbrev pub with_register : Registers → ℕ → ℕ → Registers
with_register r n v =
    if n == 13 then with_sp r v
    else if n == 14 then record r { lr = low_word v }
    else if n == 15 then with_pc r v
    else record r { general = slice_set r.general n (low_word v) }

-- N and Z of a result
abbrev pub with_result : Flags → ℕ → Flags
with_result f v = record f { negative = is_bit v 31; zero = v == 0 }

-- the weight where the bit is set, and 0 otherwise
abbrev pub mask_if : Bool → ℕ → ℕ
mask_if b weight = if b then weight else 0

-- APSR: N, Z, C, V and Q in bits 31:27
abbrev pub apsr : Flags → ℕ
apsr f =
    mask_if f.negative (2 ^ 31) + mask_if f.zero (2 ^ 30) + mask_if f.carry (2 ^ 29) + mask_if f.overflow (2 ^ 28)
    + mask_if f.saturated (2 ^ 27)

-- the flags in bits 31:27 of a word
abbrev pub flags_of : ℕ → Flags
flags_of v = record {
  negative = is_bit v 31;
  zero = is_bit v 30;
  carry = is_bit v 29;
  overflow = is_bit v 28;
  saturated = is_bit v 27;
}

-- xPSR: APSR, IT[1:0], T, IT[7:2] and the exception's number
abbrev pub xpsr : Registers → ℕ
xpsr r = apsr r.flags + r.it_state % 4 * 2 ^ 25 + mask_if r.thumb (2 ^ 24) + r.it_state / 4 * 2 ^ 10 + r.exception

-- CONTROL: nPRIV and SPSEL
abbrev pub control : Registers → ℕ
control r = mask_if r.unprivileged 1 + mask_if r.process_stack 2

-- CONTROL.nPRIV, and in Thread mode CONTROL.SPSEL
abbrev pub control_written : Registers → ℕ → Registers
control_written r value = record r {
  unprivileged = is_bit value 0;
  process_stack = if is_handler r then r.process_stack else is_bit value 1;
}

-- the registers after a reset, from the first two entries of the vector table: MSP, and PC with T as its bit 0; those
-- that TakeReset() leaves UNKNOWN are 0 (profile)
abbrev pub reset_registers : ℕ → ℕ → Registers
reset_registers stack entry = record {
  general = replicate 13 0;
  msp = stack_pointer stack;
  psp = 0;
  lr = 0xFFFF_FFFF;
  pc = code_address entry;
  flags = record { negative = false; zero = false; carry = false; overflow = false; saturated = false };
  it_state = 0;
  thumb = is_bit entry 0;
  exception = 0;
  unprivileged = false;
  process_stack = false;
  monitor = None;
}
