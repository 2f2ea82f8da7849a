-- What holds of a state at the start, after each step and after each value that `place` puts. It's proved in the crate
-- `state_laws`. A step is defined in every state, also in one without the invariant.
use Rattle.std.specs.Prelude.{◌≡◌, ℕ, ◌%◌, ◌^◌, ◌<◌, true, is_some, length, slice_index, None}
use Rattle.instruction_set.specs.Registers.{Registers}
use Rattle.platform.specs.Priorities.{candidate}
use Rattle.reference.specs.State.{State}
use Rattle.platform.specs.SystemInvariant.{IsLaidOut, SystemInvariant}

-- a word that is a multiple of 4
pub record IsStackPointer (v : ℕ) : Type 0 where
  pub word : v < 2 ^ 32
  pub aligned : v % 4 ≡ 0

-- a word that is even
pub record IsCodeAddress (v : ℕ) : Type 0 where
  pub word : v < 2 ^ 32
  pub even : v % 2 ≡ 0

-- R0 to R12 are there, they and LR are words, MSP, PSP and PC are words with their lowest bits 0, IT has eight bits,
-- and IPSR nine
pub record HasRegisters (r : Registers) : Type 0 where
  pub all : length r.general ≡ 13
  pub general : (n : ℕ) → slice_index r.general n < 2 ^ 32
  pub msp : IsStackPointer r.msp
  pub psp : IsStackPointer r.psp
  pub lr : r.lr < 2 ^ 32
  pub pc : IsCodeAddress r.pc
  pub it_state : r.it_state < 2 ^ 8
  pub exception : r.exception < 2 ^ 9

-- what holds of the state
pub record Invariant (s : State) : Type 0 where
  pub registers : HasRegisters s.registers
  -- in the entry phase there is a candidate, unless the machine has stopped
  pub entry : s.stop ≡ None → is_some s.entry ≡ true → is_some (candidate s.bus.system.nvic) ≡ true
  pub memory : IsLaidOut s.bus.memory
  pub system : SystemInvariant s.bus.system
