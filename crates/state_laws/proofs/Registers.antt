-- Each write of a core register keeps what the invariant says of them.
use Rattle.std.proofs.Common.{◌≡◌, ℕ, zero, suc, ◌%◌, ◌^◌, ◌<◌, not, ◌==◌, List, [], ◌∷◌, slice_index, slice_set}
use Rattle.std.proofs.Common.{replicate, refl, ◌∙◌, arith, ◌||◌}
use Rattle.std.proofs.lemmas.Bool.{cond_both}
use Rattle.std.proofs.lemmas.List.{length-set, length-replicate}
use Rattle.instruction_set.specs.declared.instruction.InstructionLength.{InstructionLength}
use Rattle.instruction_set.specs.declared.instruction.InstructionLength.TheVariants.{Short, Long}
use Rattle.instruction_set.specs.declared.system.SpecialRegister.{SpecialRegister}
use Rattle.instruction_set.specs.declared.system.SpecialRegister.TheVariants.{Apsr, Iapsr, Eapsr, Xpsr, Ipsr, Epsr}
use Rattle.instruction_set.specs.declared.system.SpecialRegister.TheVariants.{Iepsr, Msp, Psp, Primask, Basepri}
use Rattle.instruction_set.specs.declared.system.SpecialRegister.TheVariants.{BasepriMax, Faultmask, Control}
use Rattle.instruction_set.specs.declared.registers.Flags.{Flags}
use Rattle.instruction_set.specs.Arithmetic.{in_it_block, it_advance}
use Rattle.instruction_set.specs.Registers.{Registers, is_privileged, stack_pointer, flags_of, reset_registers}
use Rattle.instruction_set.specs.Sizes.{instruction_bytes}
use Rattle.instruction_set.specs.Words.{word_sum}
use Rattle.reference.specs.Invariant.{IsStackPointer, IsCodeAddress, HasRegisters}
use Rattle.reference.specs.ProgramCounter.{advanced}
use Rattle.platform.specs.SpecialRegisters.{is_written_unprivileged, with_special, write_special}
use Rattle.state_laws.proofs.Effects.{KeepsWrites, stack_pointer_is, code_address_is}

-- ---- values

-- each number of a list is a word
abbrev pub AreWords : List ℕ → Type 0
AreWords words = (n : ℕ) → slice_index words n < 2 ^ 32

-- words of which one becomes another word are words
pub words_set : (words : List ℕ) (i v : ℕ) → v < 2 ^ 32 → AreWords words → AreWords (slice_set words i v)
words_set [] i v small are n = are n
words_set (w ∷ words) zero v small are zero = small
words_set (w ∷ words) zero v small are (suc n) = are (suc n)
words_set (w ∷ words) (suc i) v small are zero = are zero
words_set (w ∷ words) (suc i) v small are (suc n) = words_set words i v small (λ k. are (suc k)) n

pub zeros_are_words : (count : ℕ) → AreWords (replicate count 0)
zeros_are_words zero n = omega arith
zeros_are_words (suc count) zero = omega arith
zeros_are_words (suc count) (suc n) = zeros_are_words count n

-- ---- registers

-- registers with the same R0 to R12 and the same IPSR
pub changed : (r u : Registers) → u.general ≡ r.general → u.exception ≡ r.exception → IsStackPointer u.msp →
    IsStackPointer u.psp → u.lr < 2 ^ 32 → IsCodeAddress u.pc → u.it_state < 2 ^ 8 → HasRegisters r → HasRegisters u
changed r u general exception msp psp lr pc it h = record {
  all = rw general h.all;
  general = rw general h.general;
  msp = msp;
  psp = psp;
  lr = lr;
  pc = pc;
  it_state = it;
  exception = rw exception h.exception;
}

pub with_flags : (r : Registers) (f : Flags) → HasRegisters r → HasRegisters (record r { flags = f })
with_flags r f h = changed r _ refl refl h.msp h.psp h.lr h.pc h.it_state h

-- one of R0 to R12 becomes a word
general_kept : (r : Registers) (n v : ℕ) → v < 2 ^ 32 → HasRegisters r →
    HasRegisters (record r { general = slice_set r.general n v })
general_kept r n v small h = record {
  all = length-set r.general n v ∙ h.all;
  general = words_set r.general n v small h.general;
  msp = h.msp;
  psp = h.psp;
  lr = h.lr;
  pc = h.pc;
  it_state = h.it_state;
  exception = h.exception;
}

lr_kept : (r : Registers) (v : ℕ) → v < 2 ^ 32 → HasRegisters r → HasRegisters (record r { lr = v })
lr_kept r v small h = changed r _ refl refl h.msp h.psp small h.pc h.it_state h

pc_kept : (r : Registers) (v : ℕ) → IsCodeAddress v → HasRegisters r → HasRegisters (record r { pc = v })
pc_kept r v is h = changed r _ refl refl h.msp h.psp h.lr is h.it_state h

pub psp_kept : (r : Registers) (v : ℕ) → IsStackPointer v → HasRegisters r → HasRegisters (record r { psp = v })
psp_kept r v is h = changed r _ refl refl h.msp is h.lr h.pc h.it_state h

pub msp_kept : (r : Registers) (v : ℕ) → IsStackPointer v → HasRegisters r → HasRegisters (record r { msp = v })
msp_kept r v is h = changed r _ refl refl is h.psp h.lr h.pc h.it_state h

-- ---- the end of an instruction

with_it : (r : Registers) (it : ℕ) → it < 2 ^ 8 → HasRegisters r → HasRegisters (record r { it_state = it })
with_it r it small h = changed r _ refl refl h.msp h.psp h.lr h.pc small h

advance_small : (it : ℕ) → it < 2 ^ 8 → it_advance it < 2 ^ 8
advance_small it small =
    cond_both (not (in_it_block it)) _ _ (λ x. x < 2 ^ 8) (λ e. small)
    (λ e. cond_both (it % 2 ^ 3 == 0) _ _ (λ x. x < 2 ^ 8) (λ f. omega arith) (λ f. omega arith))

advanced_kept : (r : Registers) → HasRegisters r → HasRegisters (advanced r)
advanced_kept r h = with_it r (it_advance r.it_state) (advance_small r.it_state h.it_state) h

-- the address after an instruction
next_address : (pc : ℕ) (length : InstructionLength) → IsCodeAddress pc →
    IsCodeAddress (word_sum pc (instruction_bytes length))
next_address pc Short is = let even = is.even in record { word = omega arith; even = omega arith }
next_address pc Long is = let even = is.even in record { word = omega arith; even = omega arith }

next_kept : (r : Registers) (length : InstructionLength) → HasRegisters r →
    HasRegisters (record r { pc = word_sum r.pc (instruction_bytes length) })
next_kept r length h = pc_kept r (word_sum r.pc (instruction_bytes length)) (next_address r.pc length h.pc) h

-- all writes together
pub writes_kept : KeepsWrites HasRegisters
writes_kept = record {
  general = general_kept;
  msp = msp_kept;
  psp = psp_kept;
  lr = lr_kept;
  pc = pc_kept;
  next = next_kept;
  flags = with_flags;
  it_state = with_it;
  advanced = advanced_kept;
  thumb = λ r on h. changed r _ refl refl h.msp h.psp h.lr h.pc h.it_state h;
  monitor = λ r m h. changed r _ refl refl h.msp h.psp h.lr h.pc h.it_state h;
}

-- ---- special registers, and a reset

pub special_kept : (r : Registers) (special : SpecialRegister) (value : ℕ) → HasRegisters r →
    HasRegisters (with_special r special value)
unfolding with_special
special_kept r Apsr value h = with_flags r (flags_of value) h
special_kept r Iapsr value h = with_flags r (flags_of value) h
special_kept r Eapsr value h = with_flags r (flags_of value) h
special_kept r Xpsr value h = with_flags r (flags_of value) h
special_kept r Ipsr value h = h
special_kept r Epsr value h = h
special_kept r Iepsr value h = h
special_kept r Msp value h = msp_kept r (stack_pointer value) (stack_pointer_is value) h
special_kept r Psp value h = psp_kept r (stack_pointer value) (stack_pointer_is value) h
special_kept r Primask value h = h
special_kept r Basepri value h = h
special_kept r BasepriMax value h = h
special_kept r Faultmask value h = h
special_kept r Control value h = changed r _ refl refl h.msp h.psp h.lr h.pc h.it_state h

pub write_special_kept : (r : Registers) (special : SpecialRegister) (value : ℕ) → HasRegisters r →
    HasRegisters (write_special r special value)
unfolding write_special
write_special_kept r special value h =
    cond_both (is_privileged r || is_written_unprivileged special) _ _ HasRegisters
    (λ e. special_kept r special value h) (λ e. h)

pub reset_has : (stack entry : ℕ) → HasRegisters (reset_registers stack entry)
reset_has stack entry = record {
  all = length-replicate {A = ℕ} 13 0;
  general = zeros_are_words 13;
  msp = stack_pointer_is stack;
  psp = stack_pointer_is 0;
  lr = omega arith;
  pc = code_address_is entry;
  it_state = omega arith;
  exception = omega arith;
}
