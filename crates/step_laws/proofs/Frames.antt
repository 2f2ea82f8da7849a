-- What a frame gives back.
use Rattle.std.proofs.Common.{◌≡◌, ℕ, ◌%◌, ◌^◌, ◌<◌, Bool, true, false, not, ◌&&◌, ◌==◌, if◌then◌else◌, List}
use Rattle.std.proofs.Common.{length, get_or, refl, ◌∙◌, ap, arith}
use Rattle.std.proofs.lemmas.Bool.{cond_both}
use Rattle.std.proofs.lemmas.List.{get_or-set_same, get_or-set_other}
use Rattle.std.proofs.Math.ListN.{set, length-set}
use Rattle.instruction_set.specs.Frames.{exc_return, frame, frame_base, frame_pointer, returns_on_psp, with_frame}
use Rattle.instruction_set.specs.Frames.{with_frame_pointer, above_frame, pushed_xpsr, frame_word, popped_xpsr, it_of}
use Rattle.instruction_set.specs.Frames.{popped}
use Rattle.instruction_set.specs.Registers.{Registers, is_handler, uses_psp, sp, stack_pointer, with_sp, flags_of}
use Rattle.instruction_set.specs.Words.{low_word, is_bit}
use Rattle.reference.specs.Invariant.{IsStackPointer, HasRegisters}
use Rattle.step_laws.specs.FrameLaw.{FrameGivesBack}
use Rattle.step_laws.proofs.Words.{flags_back, it_back, thumb_back, exception_back, xpsr_is_word, sp_back}

-- ---- R0 to R3 and R12

record AreFive (back : List ℕ) (w0 w1 w2 w3 w12 : ℕ) : Type 0 where
  r0 : get_or back 0 0 ≡ w0
  r1 : get_or back 1 0 ≡ w1
  r2 : get_or back 2 0 ≡ w2
  r3 : get_or back 3 0 ≡ w3
  r12 : get_or back 12 0 ≡ w12

five : (g : List ℕ) (w0 w1 w2 w3 w12 : ℕ) → length g ≡ 13 →
    AreFive (set (set (set (set (set g 0 w0) 1 w1) 2 w2) 3 w3) 12 w12) w0 w1 w2 w3 w12
five g w0 w1 w2 w3 w12 all = record {
  r0 = grind (arith, get_or-set_same {A = ℕ}, get_or-set_other {A = ℕ}, length-set {A = ℕ});
  r1 = grind (arith, get_or-set_same {A = ℕ}, get_or-set_other {A = ℕ}, length-set {A = ℕ});
  r2 = grind (arith, get_or-set_same {A = ℕ}, get_or-set_other {A = ℕ}, length-set {A = ℕ});
  r3 = grind (arith, get_or-set_same {A = ℕ}, get_or-set_other {A = ℕ}, length-set {A = ℕ});
  r12 = grind (arith, get_or-set_same {A = ℕ}, get_or-set_other {A = ℕ}, length-set {A = ℕ});
}

-- ---- the stack

-- EXC_RETURN names PSP where it was SP
names_stack : (handler process : Bool) →
    returns_on_psp (if handler then 0xFFFF_FFF1 else if process then 0xFFFF_FFFD else 0xFFFF_FFF9)
    ≡ (not handler && process)
names_stack true process = refl
names_stack false true = refl
names_stack false false = refl

twice : (handler process : Bool) → (not handler && (not handler && process)) ≡ (not handler && process)
twice true process = refl
twice false process = refl

stack_back : (x y : ℕ) (process : Bool) → x ≡ y →
    (not (not (x == 0))
    && returns_on_psp (if not (y == 0) then 0xFFFF_FFF1 else if process then 0xFFFF_FFFD else 0xFFFF_FFF9))
    ≡ (not (not (y == 0)) && process)
stack_back x y process e = rw (e, names_stack (not (y == 0)) process) (twice (not (y == 0)) process)

-- SP by the stack that it is
sp_is : (r : Registers) (psp : Bool) → uses_psp r ≡ psp → sp r ≡ (if psp then r.psp else r.msp)
sp_is r psp e = ap (λ b. if b then r.psp else r.msp) e

with_sp_is : (r : Registers) (v : ℕ) (psp : Bool) → uses_psp r ≡ psp → sp (with_sp r v) ≡ stack_pointer v
with_sp_is r v true e = rw (e, e) refl
with_sp_is r v false e = rw (e, e) refl

-- SP is one of the two stack pointers
sp_is_stack_pointer : (r : Registers) → HasRegisters r → IsStackPointer (sp r)
sp_is_stack_pointer r h = cond_both (uses_psp r) _ _ IsStackPointer (λ e. h.psp) (λ e. h.msp)

-- SP is at the frame after the push
pub pushed_sp : (r : Registers) → sp (with_frame r) ≡ frame_base (sp r)
pushed_sp r = with_sp_is r (frame_base (sp r)) _ refl ∙ omega arith

stack_given : (u : Registers) (e v : ℕ) (psp : Bool) → returns_on_psp e ≡ psp →
    (if psp then (with_frame_pointer u e v).psp else (with_frame_pointer u e v).msp) ≡ v
stack_given u e v true is = rw is refl
stack_given u e v false is = rw is refl

popped_sp : (u : Registers) (e : ℕ) (frame : List ℕ) (psp : Bool) → returns_on_psp e ≡ psp →
    uses_psp (popped u e frame) ≡ psp → sp (popped u e frame) ≡ above_frame (frame_pointer u e) (popped_xpsr frame)
unfolding popped
popped_sp u e frame psp named used =
    sp_is (popped u e frame) psp used ∙ stack_given u e (above_frame (frame_pointer u e) (popped_xpsr frame)) psp named

-- ---- all of it

-- the low 32 bits of a word are the word
low_word_is : (v : ℕ) → v < 2 ^ 32 → low_word v ≡ v
low_word_is v small = omega arith

pub gives_back : (r u : Registers) → FrameGivesBack r u
unfolding frame popped
gives_back r u is has same =
    let back = popped u (exc_return r) (frame r) in
    let xpsr : popped_xpsr (frame r) ≡ pushed_xpsr r =
    low_word_is (pushed_xpsr r) (xpsr_is_word r is.it_state is.exception) in
    let exception : back.exception ≡ r.exception =
    ap (λ x. x % 2 ^ 9) xpsr ∙ exception_back r is.it_state is.exception in
    let stack : uses_psp back ≡ uses_psp r = stack_back _ _ r.process_stack exception in
    let pointer = sp_is_stack_pointer r is in
    let words =
    five u.general (frame_word (frame r) 0) (frame_word (frame r) 1) (frame_word (frame r) 2) (frame_word (frame r) 3)
    (frame_word (frame r) 4) has.all in
    record {
      r0 = words.r0 ∙ low_word_is _ (is.general 0);
      r1 = words.r1 ∙ low_word_is _ (is.general 1);
      r2 = words.r2 ∙ low_word_is _ (is.general 2);
      r3 = words.r3 ∙ low_word_is _ (is.general 3);
      r12 = words.r12 ∙ low_word_is _ (is.general 12);
      lr = low_word_is r.lr is.lr;
      pc = low_word_is r.pc is.pc.word;
      flags = ap flags_of xpsr ∙ flags_back r is.it_state is.exception;
      it_state = ap it_of xpsr ∙ it_back r is.it_state is.exception;
      thumb = ap (λ x. is_bit x 24) xpsr ∙ thumb_back r is.it_state is.exception;
      exception = exception;
      mode = ap (λ x. not (x == 0)) exception;
      stack = stack;
      sp =
          popped_sp u (exc_return r) (frame r) (uses_psp r) (names_stack (is_handler r) r.process_stack) stack
          ∙ ap (λ x. above_frame (frame_pointer u (exc_return r)) x) xpsr
          ∙ ap (λ base. above_frame base (pushed_xpsr r)) (same ∙ pushed_sp r)
          ∙ sp_back r is.it_state is.exception pointer.word pointer.aligned;
    }
