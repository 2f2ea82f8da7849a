-- Texts that are put one after another.
use Rattle.std.proofs.Common.{◌≡◌, ℕ, ◌+◌, ◌-◌, List, [], ◌∷◌, ◌++◌}
use Rattle.std.proofs.Common.{add-one, append_assoc, arith, length, length-append}
use Rattle.std.proofs.Common.{refl, take}
use Rattle.std.proofs.Math.Seq.{take-append_seam}
use Rattle.gdb_texts.specs.Bytes.{byte_at, first_bytes}

pub four_parts : (page first mid last all a b c d : List ℕ)
    → first ≡ page ++ a → mid ≡ first ++ b → last ≡ mid ++ c → all ≡ last ++ d
    → all ≡ page ++ (((a ++ b) ++ c) ++ d)
four_parts page first mid last all a b c d w x y z = rw (z, y, x, w) (simp append_assoc refl)

pub five_parts : (page p q r s all a b c d e : List ℕ)
    → p ≡ page ++ a → q ≡ p ++ b → r ≡ q ++ c → s ≡ r ++ d → all ≡ s ++ e
    → all ≡ page ++ ((((a ++ b) ++ c) ++ d) ++ e)
five_parts page p q r s all a b c d e v w x y z = rw (z, y, x, w, v) (simp append_assoc refl)

pub six_parts : (page p q r s t all a b c d e f : List ℕ)
    → p ≡ page ++ a → q ≡ p ++ b → r ≡ q ++ c → s ≡ r ++ d → t ≡ s ++ e → all ≡ t ++ f
    → all ≡ page ++ (((((a ++ b) ++ c) ++ d) ++ e) ++ f)
six_parts page p q r s t all a b c d e f u v w x y z = rw (z, y, x, w, v, u) (simp append_assoc refl)

-- a line without its last byte
pub all_but_last : (text line : List ℕ) (last : ℕ) → line ≡ text ++ last ∷ [] → take (length line - 1) line ≡ text
all_but_last text line last e =
    let count : length (text ++ last ∷ []) - 1 ≡ length text = rw length-append (omega arith) in
    rw (e, count, take-append_seam) refl

-- a byte more of the first bytes of digits
pub one_byte_more : (page digits : List ℕ) (index byte : ℕ) → byte ≡ byte_at digits index
    → (page ++ first_bytes digits index) ++ byte ∷ [] ≡ page ++ first_bytes digits (index + 1)
unfolding first_bytes
one_byte_more page digits index byte e = rw (add-one, e, append_assoc) refl
