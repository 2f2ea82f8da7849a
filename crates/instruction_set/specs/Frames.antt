-- The frame that exception entry pushes, and the registers on the way in and out (ARM DDI 0403, PushStack(),
-- ExceptionTaken() and PopStack(), without floating point; CCR.STKALIGN is 1).
use Rattle.std.specs.Prelude.{ℕ, ◌+◌, ◌-◌, ◌*◌, ◌/◌, ◌%◌, ◌^◌, Bool, false, ◌==◌, ◌||◌, if◌then◌else◌, List, [], ◌∷◌}
use Rattle.std.specs.Prelude.{slice_index, slice_set, None, bit_or}
use Rattle.instruction_set.specs.Registers.{Registers, is_handler, sp, with_sp, with_exchange, xpsr, mask_if, flags_of}
use Rattle.instruction_set.specs.Words.{low_word, word_sum, is_bit}

-- ---- EXC_RETURN

-- the value for the code that is interrupted: 0xFFFFFFF1 in Handler mode, 0xFFFFFFF9 in Thread mode on MSP and
-- 0xFFFFFFFD on PSP
abbrev pub exc_return : Registers → ℕ
exc_return r = if is_handler r then 0xFFFF_FFF1 else if r.process_stack then 0xFFFF_FFFD else 0xFFFF_FFF9

-- bits 3:0 name the mode and the stack to return to
abbrev pub returns_to_handler : ℕ → Bool
returns_to_handler e = e % 16 == 1

abbrev pub returns_on_psp : ℕ → Bool
returns_on_psp e = e % 16 == 13

abbrev pub returns_to_thread : ℕ → Bool
returns_to_thread e = (e % 16 == 9) || returns_on_psp e

-- bits 27:4 should be ones
abbrev pub has_reserved_ones : ℕ → Bool
has_reserved_ones e = e / 16 % 2 ^ 24 == 2 ^ 24 - 1

-- ---- the way in

-- the address of a frame of 32 bytes below SP, with bit 2 cleared
abbrev pub frame_base : ℕ → ℕ
frame_base sp = word_sum sp (2 ^ 32 - 0x20) / 8 * 8

-- xPSR as it is pushed: bit 9 says whether bit 2 of SP was set
abbrev pub pushed_xpsr : Registers → ℕ
pushed_xpsr r = xpsr r + mask_if (is_bit (sp r) 2) (2 ^ 9)

-- the words of the frame, from its address upward
unfoldable pub frame : Registers → List ℕ
frame r =
    slice_index r.general 0 ∷ slice_index r.general 1 ∷ slice_index r.general 2 ∷ slice_index r.general 3
    ∷ slice_index r.general 12 ∷ r.lr ∷ r.pc ∷ pushed_xpsr r ∷ []

-- SP is the address of the frame, which is that of its lowest word
abbrev pub with_frame : Registers → Registers
with_frame r = with_sp r (frame_base (sp r))

-- the handler of exception x begins: PC and T are those of its vector, LR is EXC_RETURN, and nothing is marked; R0 to
-- R3, R12 and the flags stay (profile)
unfoldable pub in_handler : Registers → ℕ → ℕ → ℕ → Registers
in_handler r x e vector =
    record (with_exchange r vector) {
      lr = low_word e;
      it_state = 0;
      exception = x;
      process_stack = false;
      monitor = None;
    }

-- ---- the way out

-- the stack pointer that EXC_RETURN names
abbrev pub frame_pointer : Registers → ℕ → ℕ
frame_pointer r e = if returns_on_psp e then r.psp else r.msp

-- a stack pointer above a frame, with bit 2 as it was before the push
abbrev pub above_frame : ℕ → ℕ → ℕ
above_frame base xpsr =
    if is_bit xpsr 9 then bit_or (word_sum base 0x20) 4 else word_sum base 0x20

-- word k of a frame that was read, from its address upward
abbrev pub frame_word : List ℕ → ℕ → ℕ
frame_word frame k = low_word (slice_index frame k)

-- R0 to R3 and R12 of a frame
abbrev pub general_popped : List ℕ → List ℕ → List ℕ
general_popped general frame =
    slice_set (slice_set (slice_set (slice_set (slice_set general
    0 (frame_word frame 0)) 1 (frame_word frame 1)) 2 (frame_word frame 2)) 3 (frame_word frame 3))
    12 (frame_word frame 4)

-- the return address and xPSR of a frame
abbrev pub popped_pc : List ℕ → ℕ
popped_pc frame = frame_word frame 6

abbrev pub popped_xpsr : List ℕ → ℕ
popped_xpsr frame = frame_word frame 7

-- the number of the exception to whose handler a frame returns, 0 for Thread mode
abbrev pub popped_exception : List ℕ → ℕ
popped_exception frame = popped_xpsr frame % 2 ^ 9

-- EPSR.IT of an xPSR: IT[7:2] in bits 15:10 and IT[1:0] in bits 26:25
abbrev pub it_of : ℕ → ℕ
it_of xpsr = xpsr / 2 ^ 10 % 2 ^ 6 * 4 + xpsr / 2 ^ 25 % 4

-- the stack pointer that EXC_RETURN names becomes v
abbrev pub with_frame_pointer : Registers → ℕ → ℕ → Registers
with_frame_pointer r e v = if returns_on_psp e then record r { psp = v } else record r { msp = v }

-- the registers after a return, with nothing marked: ClearExclusiveLocal()
unfoldable pub popped : Registers → ℕ → List ℕ → Registers
popped r e frame =
    record (with_frame_pointer r e (above_frame (frame_pointer r e) (popped_xpsr frame))) {
      general = general_popped r.general frame;
      lr = frame_word frame 5;
      pc = popped_pc frame;
      flags = flags_of (popped_xpsr frame);
      it_state = it_of (popped_xpsr frame);
      thumb = is_bit (popped_xpsr frame) 24;
      exception = popped_exception frame;
      process_stack = returns_on_psp e;
      monitor = None;
    }
