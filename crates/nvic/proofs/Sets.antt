-- Sets of exceptions that eight words hold: a word that is 0 has none of its exceptions.
use Rattle.std.proofs.Common.{◌≡◌, ℕ, zero, suc, ◌+◌, ◌*◌, ◌/◌, ◌%◌, ◌^◌, ◌<◌, ◌≤◌, false, List}
use Rattle.std.proofs.Common.{slice_index, bit_or, refl, ◌∙◌, ap, arith, below_more}
use Rattle.std.proofs.lemmas.Nat.{le_or_l, le_or_r}
use Rattle.instruction_set.specs.Words.{is_bit}
use Rattle.platform.proofs.Bits.{no_bit}
use Rattle.platform.specs.declared.exception.TheConstants.{EXCEPTIONS}
use Rattle.platform.specs.Priorities.{Nvic, is_in_words, with_due, with_due_at, with_due_below}

or_zero : (a b : ℕ) → bit_or a b ≡ 0 → (a ≡ 0) × (b ≡ 0)
or_zero a b e =
    let left = le_or_l a b in
    let right = le_or_r a b in
    (omega (arith, left, e), omega (arith, right, e))

-- the bits of all words of a set
abbrev all_bits : List ℕ → ℕ
all_bits set =
    let w = slice_index set in
    bit_or (bit_or (bit_or (bit_or (bit_or (bit_or (bit_or (w 0) (w 1)) (w 2)) (w 3)) (w 4)) (w 5)) (w 6)) (w 7)

-- a set whose words are 0 has no number
pub none_in_zeros : (set : List ℕ) → all_bits set ≡ 0
    → (x : ℕ) → x < EXCEPTIONS → is_in_words set x ≡ false
none_in_zeros set e x h =
    let (to_6, w7) = or_zero _ _ e in
    let (to_5, w6) = or_zero _ _ to_6 in
    let (to_4, w5) = or_zero _ _ to_5 in
    let (to_3, w4) = or_zero _ _ to_4 in
    let (to_2, w3) = or_zero _ _ to_3 in
    let (to_1, w2) = or_zero _ _ to_2 in
    let (w0, w1) = or_zero _ _ to_1 in
    let word =
    below_more P 7 (below_more P 6 (below_more P 5 (below_more P 4 (below_more P 3 (below_more P 2 (below_more P 1
    (below_more P 0 (λ q none. absurd (omega (arith, none))) w0) w1) w2) w3) w4) w5) w6) w7 in
    ap (λ w. is_bit w (x % 32)) (word (x / 32) (omega (arith, h))) ∙ no_bit (x % 32)
  where
    P : ℕ → Type 0
    P k = slice_index set k ≡ 0

none_below : (n : Nvic) (due : List ℕ) → ((x : ℕ) → x < EXCEPTIONS → is_in_words due x ≡ false)
    → (k : ℕ) → k ≤ EXCEPTIONS → with_due_below n due k ≡ n
unfolding with_due_below with_due_at
none_below n due none zero h = refl
none_below n due none (suc k) h = rw (none k (omega (arith, h))) (none_below n due none k (omega (arith, h)))

-- where nothing is due, nothing becomes pending
pub none_added : (n : Nvic) (due : List ℕ) → ((x : ℕ) → x < EXCEPTIONS → is_in_words due x ≡ false) → with_due n due ≡ n
unfolding with_due
none_added n due none = none_below n due none EXCEPTIONS (omega arith)

-- ---- a word of which nothing is due

not_in_word : (due : List ℕ) (w k : ℕ) → slice_index due w ≡ 0 → w * 32 ≤ k → k < w * 32 + 32
    → is_in_words due k ≡ false
not_in_word due w k e above below =
    let place : k / 32 ≡ w = omega (arith, above, below) in
    ap (λ w. is_bit w (k % 32)) (ap (λ p. slice_index due p) place ∙ e) ∙ no_bit (k % 32)

empty_part : (n : Nvic) (due : List ℕ) (w j k : ℕ) → slice_index due w ≡ 0 → j ≤ 32 → k ≡ w * 32 + j
    → with_due_below n due k ≡ with_due_below n due (w * 32)
unfolding with_due_below with_due_at
empty_part n due w zero k e h at = ap (λ x. with_due_below n due x) (omega (arith, at))
empty_part n due w (suc j) zero e h at = absurd (omega (arith, at))
empty_part n due w (suc j) (suc k) e h at =
    rw (not_in_word due w k e (omega (arith, h, at)) (omega (arith, h, at)))
    (empty_part n due w j k e (omega (arith, h)) (omega (arith, at)))

-- where a word is 0, none of its exceptions becomes pending
pub empty_word : (n : Nvic) (due : List ℕ) (w : ℕ) → slice_index due w ≡ 0
    → with_due_below n due ((w + 1) * 32) ≡ with_due_below n due (w * 32)
empty_word n due w e = empty_part n due w 32 ((w + 1) * 32) e (omega arith) (omega arith)

-- after the last word, all that are due are pending
pub last_word : (n : Nvic) (due : List ℕ) (w : ℕ) → w ≡ 8 → with_due_below n due (w * 32) ≡ with_due n due
unfolding with_due
last_word n due w e = ap (λ k. with_due_below n due k) (omega (arith, e))
