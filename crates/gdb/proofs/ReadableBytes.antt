-- The bytes of memory that are read, one after another.
use Rattle.std.proofs.Common.{◌≡◌, ℕ, suc, ◌+◌, ◌-◌, ◌<◌, List, [], ◌∷◌, ◌++◌, Option, Some, None}
use Rattle.std.proofs.Common.{refl, sym, ◌∙◌, ap, arith, append_assoc}
use Rattle.std.proofs.lemmas.List.{append-nil}
use Rattle.gdb.specs.MemoryReads.{readable_byte, readable_bytes, up_to_gap}
use Rattle.gdb_packets.specs.Digits.{two_digits}
use Rattle.gdb_texts.specs.Bytes.{bytes_text}
use Rattle.reference.specs.State.{State}

-- with at least one byte to read
readable_more : (s : State) (a n m : ℕ) → n ≡ suc m → readable_bytes s a n
    ≡ up_to_gap (readable_byte s a) (readable_bytes s (a + 1) m)
unfolding readable_bytes
readable_more s a n m e = rw e refl

digits_more : (byte : ℕ) (later : List ℕ) → bytes_text (byte ∷ later) ≡ two_digits byte ++ bytes_text later
unfolding bytes_text
digits_more byte later = refl

digits_none : bytes_text [] ≡ []
unfolding bytes_text
digits_none = refl

none_readable : (s : State) (a : ℕ) → bytes_text (readable_bytes s a 0) ≡ []
unfolding readable_bytes bytes_text
none_readable s a = refl

-- one byte more is put
pub one_put : (s : State) (a i n byte : ℕ) (page page' all : List ℕ) → i < n → readable_byte s (a + i) ≡ Some byte
    → page ++ bytes_text (readable_bytes s (a + i) (n - i)) ≡ all → page' ≡ page ++ two_digits byte
    → page' ++ bytes_text (readable_bytes s (a + (i + 1)) (n - (i + 1))) ≡ all
one_put s a i n byte page page' all inside is so_far put =
    let left : n - i ≡ suc (n - (i + 1)) = omega arith in
    let next : (a + i) + 1 ≡ a + (i + 1) = omega arith in
    let rest : List ℕ = readable_bytes s (a + (i + 1)) (n - (i + 1)) in
    let unfolded : readable_bytes s (a + i) (n - i) ≡ byte ∷ rest =
    readable_more s (a + i) (n - i) (n - (i + 1)) left
    ∙ (ap (λ (o : Option ℕ). up_to_gap o (readable_bytes s ((a + i) + 1) (n - (i + 1)))) is
    ∙ ap (λ (x : ℕ). byte ∷ readable_bytes s x (n - (i + 1))) next) in
    ap (λ (p : List ℕ). p ++ bytes_text rest) put
    ∙ (append_assoc page (two_digits byte) (bytes_text rest)
    ∙ (ap (λ (t : List ℕ). page ++ t) (sym (digits_more byte rest) ∙ sym (ap bytes_text unfolded)) ∙ so_far))

-- there is a gap
pub gap_found : (s : State) (a i n : ℕ) (page all : List ℕ) → i < n → readable_byte s (a + i) ≡ None
    → page ++ bytes_text (readable_bytes s (a + i) (n - i)) ≡ all → page ≡ all
gap_found s a i n page all inside is so_far =
    let left : n - i ≡ suc (n - (i + 1)) = omega arith in
    let unfolded : readable_bytes s (a + i) (n - i) ≡ [] =
    readable_more s (a + i) (n - i) (n - (i + 1)) left
    ∙ ap (λ (o : Option ℕ). up_to_gap o (readable_bytes s ((a + i) + 1) (n - (i + 1)))) is in
    sym (append-nil page) ∙ (ap (λ (t : List ℕ). page ++ t) (sym (ap bytes_text unfolded ∙ digits_none)) ∙ so_far)

-- all bytes were put
pub all_put : (s : State) (a i n : ℕ) (page all : List ℕ) → i ≡ n
    → page ++ bytes_text (readable_bytes s (a + i) (n - i)) ≡ all → page ≡ all
all_put s a i n page all e so_far =
    let none : n - i ≡ 0 = omega arith in
    sym (append-nil page)
    ∙ (ap (λ (t : List ℕ). page ++ t)
    (sym (ap (λ (k : ℕ). bytes_text (readable_bytes s (a + i) k)) none ∙ none_readable s (a + i))) ∙ so_far)
