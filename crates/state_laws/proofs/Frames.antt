-- The core registers of a handler that begins, and those that a frame gives back, have what holds of core registers.
use Rattle.std.proofs.Common.{◌≡◌, ℕ, ◌%◌, ◌^◌, ◌<◌, false, List, Option, Some, None, bit_or, length, ◌∙◌, ap, arith}
use Rattle.std.proofs.lemmas.Bool.{cond_both}
use Rattle.std.proofs.lemmas.Bool.Decides.{nat_tests}
use Rattle.std.proofs.lemmas.List.{length-set}
use Rattle.std.proofs.lemmas.Nat.{or_lt, or_mod}
use Rattle.instruction_set.specs.Frames.{in_handler, frame_pointer, returns_on_psp, above_frame, general_popped}
use Rattle.instruction_set.specs.Frames.{frame_word, popped_pc, popped_xpsr, with_frame_pointer, popped}
use Rattle.instruction_set.specs.Registers.{Registers}
use Rattle.instruction_set.specs.Words.{word_sum, is_bit}
use Rattle.nvic.proofs.Best.{candidate_is}
use Rattle.nvic.specs.Laws.{IsCandidate}
use Rattle.platform.specs.declared.exception.TheConstants.{EXCEPTIONS}
use Rattle.reference.specs.Invariant.{IsStackPointer, HasRegisters}
use Rattle.platform.specs.Priorities.{Nvic, candidate}
use Rattle.state_laws.proofs.Effects.{exchange_kept}
use Rattle.state_laws.proofs.Registers.{AreWords, words_set, psp_kept, msp_kept, writes_kept}

-- ---- the candidate is below 256

abbrev pub IsBelow : ℕ → Option ℕ → Type 0
IsBelow k None = Unit {0}
IsBelow k (Some x) = x < k

pub candidate_small : (n : Nvic) → IsBelow EXCEPTIONS (candidate n)
candidate_small n = lead (candidate n) (candidate_is n)
  where
    lead : (o : Option ℕ) → IsCandidate n o → IsBelow EXCEPTIONS o
    lead None c = tt
    lead (Some x) c = c.0.0.in_range

-- ---- entry

pub handler_kept : (r : Registers) (x e vector : ℕ) → x < EXCEPTIONS → HasRegisters r →
    HasRegisters (in_handler r x e vector)
unfolding in_handler
handler_kept r x e vector small h = record {
  all = h.all;
  general = h.general;
  msp = h.msp;
  psp = h.psp;
  lr = omega arith;
  pc = (exchange_kept writes_kept r vector h).pc;
  it_state = omega arith;
  exception = omega arith;
}

-- ---- return

-- a stack pointer whose bit 2 is set is one too
raised : (x : ℕ) → IsStackPointer x → IsStackPointer (bit_or x 4)
raised x is = record {
  word = or_lt 32 x 4 is.word (omega arith);
  aligned = or_mod x 4 2 ∙ ap (λ k. bit_or k (4 % 2 ^ 2)) is.aligned;
}

above_is : (base xpsr : ℕ) → base % 4 ≡ 0 → IsStackPointer (above_frame base xpsr)
above_is base xpsr aligned =
    let up : IsStackPointer (word_sum base 0x20) = record { word = omega arith; aligned = omega arith } in
    cond_both (is_bit xpsr 9) _ _ IsStackPointer (λ f. raised (word_sum base 0x20) up) (λ f. up)

frame_aligned : (r : Registers) (e : ℕ) → HasRegisters r → frame_pointer r e % 4 ≡ 0
frame_aligned r e h = cond_both (returns_on_psp e) _ _ (λ x. x % 4 ≡ 0) (λ f. h.psp.aligned) (λ f. h.msp.aligned)

frame_of_kept : (r : Registers) (e v : ℕ) → IsStackPointer v → HasRegisters r → HasRegisters (with_frame_pointer r e v)
frame_of_kept r e v is h =
    cond_both (returns_on_psp e) _ _ HasRegisters (λ f. psp_kept r v is h) (λ f. msp_kept r v is h)

-- a return address without its bit 0 is even
is_even : (v : ℕ) → is_bit v 0 ≡ false → v % 2 ≡ 0
is_even v e = grind (arith, nat_tests)

popped_length : (general frame : List ℕ) → length (general_popped general frame) ≡ length general
popped_length general frame =
    length-set _ 12 _ ∙ length-set _ 3 _ ∙ length-set _ 2 _ ∙ length-set _ 1 _ ∙ length-set general 0 _

frame_word_is : (frame : List ℕ) (k : ℕ) → frame_word frame k < 2 ^ 32
frame_word_is frame k = omega arith

popped_words : (general frame : List ℕ) → AreWords general → AreWords (general_popped general frame)
popped_words general frame are =
    words_set _ 12 _ (frame_word_is frame 4) (words_set _ 3 _ (frame_word_is frame 3)
    (words_set _ 2 _ (frame_word_is frame 2) (words_set _ 1 _ (frame_word_is frame 1)
    (words_set general 0 _ (frame_word_is frame 0) are))))

pub popped_kept : (r : Registers) (e : ℕ) (frame : List ℕ) → is_bit (popped_pc frame) 0 ≡ false → HasRegisters r →
    HasRegisters (popped r e frame)
unfolding popped
popped_kept r e frame even h =
    let moved = frame_of_kept r e (above_frame (frame_pointer r e) (popped_xpsr frame))
    (above_is (frame_pointer r e) (popped_xpsr frame) (frame_aligned r e h)) h in
    record {
      all = popped_length r.general frame ∙ h.all;
      general = popped_words r.general frame h.general;
      msp = moved.msp;
      psp = moved.psp;
      lr = frame_word_is frame 5;
      pc = record { word = frame_word_is frame 6; even = is_even (popped_pc frame) even };
      it_state = omega arith;
      exception = omega arith;
    }
