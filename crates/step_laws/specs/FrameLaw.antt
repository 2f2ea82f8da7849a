-- Which registers a return restores, of those that an entry pushed (ARM DDI 0403, PushStack() and PopStack()).
use Rattle.std.specs.Prelude.{◌≡◌, ℕ, ◌<◌, List, slice_index, None}
use Rattle.instruction_set.specs.Frames.{exc_return, frame, frame_pointer, with_frame, popped}
use Rattle.instruction_set.specs.Registers.{Registers, is_handler, uses_psp, sp}
use Rattle.instruction_set.specs.Words.{word_sum}
use Rattle.platform.specs.declared.event.Event.{Event}
use Rattle.reference.specs.Accesses.{perform_all}
use Rattle.reference.specs.ExceptionEntry.{pushes, begin_entry}
use Rattle.reference.specs.ExceptionReturn.{exception_return}
use Rattle.reference.specs.Invariant.{HasRegisters, Invariant}
use Rattle.platform.specs.Memory.{Memory, byte_at}
use Rattle.reference.specs.State.{State}

-- what a frame keeps of the registers is back: also the mode, which of the two stack pointers SP is, and SP itself
pub record AreBack (r back : Registers) : Type 0 where
  pub r0 : slice_index back.general 0 ≡ slice_index r.general 0
  pub r1 : slice_index back.general 1 ≡ slice_index r.general 1
  pub r2 : slice_index back.general 2 ≡ slice_index r.general 2
  pub r3 : slice_index back.general 3 ≡ slice_index r.general 3
  pub r12 : slice_index back.general 12 ≡ slice_index r.general 12
  pub lr : back.lr ≡ r.lr
  pub pc : back.pc ≡ r.pc
  pub flags : back.flags ≡ r.flags
  pub it_state : back.it_state ≡ r.it_state
  pub thumb : back.thumb ≡ r.thumb
  pub exception : back.exception ≡ r.exception
  pub mode : is_handler back ≡ is_handler r
  pub stack : uses_psp back ≡ uses_psp r
  pub sp : sp back ≡ sp r

-- ---- the frame alone

-- let `HasRegisters` hold of r and of u; where the stack pointer that EXC_RETURN names is in u as it was after the push
-- from r, the words of the frame restore what it keeps of r
abbrev pub FrameGivesBack : Registers → Registers → Type 0
FrameGivesBack r u =
    HasRegisters r → HasRegisters u → frame_pointer u (exc_return r) ≡ sp (with_frame r) →
    AreBack r (popped u (exc_return r) (frame r))

-- ---- an entry, and a return

-- all eight pushes of an entry from s are carried out
abbrev pub IsStacked : State → Type 0
IsStacked s = (perform_all s.registers.exception s.bus.system.time.ticks s.bus (pushes s.registers)).failure ≡ None

-- the 32 bytes of a frame are as they were
abbrev pub KeepsFrame : Memory → Memory → ℕ → Type 0
KeepsFrame old new base = (k : ℕ) → k < 0x20 → byte_at new (word_sum base k) ≡ byte_at old (word_sum base k)

-- the frame's bytes, and the stack pointer that EXC_RETURN names, are in u as they were after the pushes from s
pub record HasFrameOf (s u : State) : Type 0 where
  pub stack : frame_pointer u.registers (exc_return s.registers) ≡ sp (begin_entry s).state.registers
  pub bytes : KeepsFrame (begin_entry s).state.bus.memory u.bus.memory (sp (begin_entry s).state.registers)

-- outside the entry phase, and not stopped
abbrev pub IsFree : State → Type 0
IsFree s = (s.entry ≡ None) × (s.stop ≡ None)

-- let s and u be states with the invariant; where all eight pushes of an entry from s are carried out, and the frame's
-- bytes and the stack pointer that EXC_RETURN names are in u as they were after the pushes, a return from u with that
-- EXC_RETURN that neither stops nor begins an entry restores what the frame keeps of the registers of s
abbrev pub ReturnGivesBack : State → State → List Event → Type 0
ReturnGivesBack s u before =
    let returned = (exception_return u before (exc_return s.registers)).state in
    Invariant s → Invariant u → IsStacked s → HasFrameOf s u → IsFree returned →
    AreBack s.registers returned.registers
