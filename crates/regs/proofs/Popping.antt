-- The registers after a return, which takes one part of a frame after another.
use Rattle.std.proofs.Common.{◌≡◌, ℕ, Bool, true, false, refl, List, None}
use Rattle.instruction_set.specs.Frames.{popped, general_popped, frame_word, frame_pointer, with_frame_pointer}
use Rattle.instruction_set.specs.Frames.{above_frame, popped_pc, popped_xpsr, popped_exception, it_of, returns_on_psp}
use Rattle.instruction_set.specs.Registers.{Registers, flags_of}
use Rattle.instruction_set.specs.Words.{is_bit}

-- r1 to r6: the registers after each part, which are the stack pointer, R0 to R3 and R12, LR, the flags, PC with IT
-- and T, and the mode
pub popped_in_parts : (on_psp : Bool) (r r1 r2 r3 r4 r5 r6 : Registers) (e : ℕ) (frame : List ℕ) →
    returns_on_psp e ≡ on_psp →
    r1 ≡ with_frame_pointer r e (above_frame (frame_pointer r e) (popped_xpsr frame)) →
    r2 ≡ record r1 { general = general_popped r1.general frame } →
    r3 ≡ record r2 { lr = frame_word frame 5 } →
    r4 ≡ record r3 { flags = flags_of (popped_xpsr frame) } →
    r5 ≡ record r4 {
      pc = popped_pc frame;
      it_state = it_of (popped_xpsr frame);
      thumb = is_bit (popped_xpsr frame) 24;
      monitor = None;
    } →
    r6 ≡ record r5 { exception = popped_exception frame; process_stack = returns_on_psp e } →
    r6 ≡ popped r e frame
unfolding popped
popped_in_parts true r r1 r2 r3 r4 r5 r6 e frame h e1 e2 e3 e4 e5 e6 = rw (e6, e5, e4, e3, e2, e1, h) refl
popped_in_parts false r r1 r2 r3 r4 r5 r6 e frame h e1 e2 e3 e4 e5 e6 = rw (e6, e5, e4, e3, e2, e1, h) refl
