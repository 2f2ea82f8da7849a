-- The highest group priority of the active exceptions, from their set of bits.
--
-- - A word that is 0 leaves it as it is (`empty_word`).
-- - In another word the lowest 1 is looked for, again and again. `HasLooked` says how far: the exceptions before
--   `number` have been looked at, and `rest` is what is left of the word, shifted right.
-- - The bits below the lowest 1 of the rest are 0, so what is between is passed over (`passed`).
use Rattle.std.proofs.Common.{◌≡◌, ℕ, zero, suc, ◌==◌, ◌+◌, ◌-◌, ◌*◌, ◌/◌, ◌%◌, ◌^◌, ◌<◌, ◌≤◌, ◌⊎◌, inl, inr, min, true}
use Rattle.std.proofs.Common.{false, List, slice_index, refl, sym, ◌∙◌, ap, arith, w32}
use Rattle.std.proofs.Math.Nat.{div-div-eq-div-mul, div-le_self}
use Rattle.std.proofs.lemmas.Bool.{cases_lt, eq-eqb}
use Rattle.std.proofs.lemmas.Nat.{pow-add}
use Rattle.std.proofs.lemmas.Nat.Bits.{bit_at_above, bit_at-trailing_zeros, bit_at-zero}
use Rattle.std.specs.Int.{trailing_zeros}
use Rattle.instruction_set.specs.Words.{bit_at}
use Rattle.nvic_levels.proofs.Lists.{flag}
use Rattle.nvic_levels.specs.Sets.{flags, IsWordOf}
use Rattle.platform.specs.Priorities.{Nvic, group_priority, highest_active, is_in, is_in_words, lowest}

pub no_word : (n : Nvic) → lowest ≡ highest_active n 0
unfolding highest_active
no_word n = refl

-- the words of the set are words of the active exceptions
pub word_is : (n : Nvic) (active : List ℕ) (w : ℕ) → flags (is_in_words active) ≡ n.active → w < 8
    → IsWordOf n.active w (slice_index active w)
word_is n active w same small k within =
    let word : (w * 32 + k) / 32 ≡ w = omega (arith, within) in
    let bit : (w * 32 + k) % 32 ≡ k = omega (arith, within) in
    ap (λ s. is_in s (w * 32 + k)) (sym same) ∙ flag (is_in_words active) (w * 32 + k) (omega (arith, small, within))
    ∙ rw (word, bit) refl

-- exceptions that aren't active leave it as it is
passed : (n : Nvic) (w v s j k : ℕ) → IsWordOf n.active w v → s + j ≤ 32
    → ((i : ℕ) → i < j → bit_at v (s + i) ≡ 0) → k ≡ w * 32 + (s + j)
    → highest_active n k ≡ highest_active n (w * 32 + s)
unfolding highest_active
passed n w v s zero k is room none at = ap (highest_active n) (omega (arith, at))
passed n w v s (suc j) zero is room none at = absurd (omega (arith, at))
passed n w v s (suc j) (suc k) is room none at =
    rw out (passed n w v s j k is (omega (arith, room)) (λ i h. none i (omega (arith, h))) (omega (arith, at)))
  where
    place : k ≡ w * 32 + (s + j)
    place = omega (arith, at)

    out : is_in n.active k ≡ false
    out = ap (is_in n.active) place ∙ is (s + j) (omega (arith, room)) ∙ ap (λ b. b == 1) (none j (omega arith))

pub empty_word : (n : Nvic) (active : List ℕ) (w : ℕ) → flags (is_in_words active) ≡ n.active → w < 8
    → slice_index active w ≡ 0 → highest_active n ((w + 1) * 32) ≡ highest_active n (w * 32)
empty_word n active w same small e =
    passed n w (slice_index active w) 0 32 ((w + 1) * 32) (word_is n active w same small) (omega arith)
    (λ i h. ap (λ v. bit_at v (0 + i)) e ∙ bit_at-zero (0 + i)) (omega arith)
    ∙ ap (highest_active n) from_start
  where
    from_start : w * 32 + 0 ≡ w * 32
    from_start = omega arith

-- the lemmas of a loop over words
pub ruleset word_lemmas = (no_word, word_is, empty_word)

-- ---- a word that isn't 0

-- the exceptions of word w before `number` have been looked at
pub record HasLooked (n : Nvic) (word w number rest least : ℕ) : Type 0 where
  pub from : w * 32 ≤ number
  pub upto : number ≤ w * 32 + 32
  pub left : rest ≡ word / 2 ^ (number - w * 32)
  pub found : least ≡ highest_active n number

bit_left : (v s i : ℕ) → bit_at (v / 2 ^ s) i ≡ bit_at v (s + i)
bit_left v s i = ap (λ q. q % 2) (div-div-eq-div-mul v (2 ^ s) (2 ^ i) ∙ ap (λ p. v / p) (sym (pow-add 2 s i)))

-- nothing is left
pub looked_last : (n : Nvic) (v w number rest least : ℕ) → IsWordOf n.active w v
    → HasLooked n v w number rest least → rest ≡ 0 → least ≡ highest_active n ((w + 1) * 32)
looked_last n v w number rest least is so e =
    so.found ∙ ap (highest_active n) place
    ∙ sym (passed n w v s (32 - s) ((w + 1) * 32) is (let h = upto in omega (arith, h))
    (λ i h. sym (bit_left v s i) ∙ ap (λ r. bit_at r i) (sym so.left ∙ e) ∙ bit_at-zero i)
    (let h = upto in omega (arith, h)))
  where
    s : ℕ
    s = number - w * 32

    upto : s ≤ 32
    upto = let f = so.upto in omega (arith, f)

    place : number ≡ w * 32 + s
    place = let f = so.from in omega (arith, f)

-- the lowest 1 of the rest has been looked at too
pub looked_next : (n : Nvic) (v w number rest least : ℕ) → IsWordOf n.active w v → v < 2 ^ 32
    → HasLooked n v w number rest least → 0 < rest
    → HasLooked n v w (number + trailing_zeros w32 rest + 1)
    (rest / 2 ^ trailing_zeros w32 rest / 2)
    (min (group_priority n (number + trailing_zeros w32 rest)) least)
unfolding highest_active
looked_next n v w number rest least is fits so some = record {
  from = let f = so.from in omega (arith, f);
  upto = let f = so.from in let h = within in omega (arith, f, h);
  left = shifted;
  found = raised;
}
  where
    s : ℕ
    s = number - w * 32

    t : ℕ
    t = trailing_zeros w32 rest

    less : rest ≤ v
    less = let e = so.left in let h = div-le_self v (2 ^ s) in omega (arith, e, h)

    low : (t < 32) × (bit_at rest t ≡ 1) × ((i : ℕ) → i < t → bit_at rest i ≡ 0)
    low = bit_at-trailing_zeros w32 rest some (let h = less in omega (arith, h, fits))

    bit : (i : ℕ) → bit_at rest i ≡ bit_at v (s + i)
    bit i = ap (λ r. bit_at r i) so.left ∙ bit_left v s i

    within : s + t < 32
    within = lead (cases_lt (s + t) 32)
      where
        lead : ((s + t < 32) ⊎ (32 ≤ s + t)) → s + t < 32
        lead (inl below) = below
        lead (inr above) =
            let none = bit_at_above v 32 (s + t) fits above in
            let one = sym (bit t) ∙ low.1 in
            absurd (omega (arith, none, one))

    place : number ≡ w * 32 + s
    place = let f = so.from in omega (arith, f)

    here : number + t ≡ w * 32 + (s + t)
    here = let f = so.from in omega (arith, f)

    next : number + t + 1 - w * 32 ≡ s + (t + 1)
    next = let f = so.from in omega (arith, f)

    shifted : rest / 2 ^ t / 2 ^ 1 ≡ v / 2 ^ (number + t + 1 - w * 32)
    shifted =
        div-div-eq-div-mul rest (2 ^ t) (2 ^ 1) ∙ ap (λ p. rest / p) (sym (pow-add 2 t 1))
        ∙ ap (λ r. r / 2 ^ (t + 1)) so.left ∙ div-div-eq-div-mul v (2 ^ s) (2 ^ (t + 1))
        ∙ ap (λ p. v / p) (sym (pow-add 2 s (t + 1))) ∙ ap (λ e. v / 2 ^ e) (sym next)

    on : is_in n.active (number + t) ≡ true
    on =
        ap (is_in n.active) here ∙ is (s + t) within ∙ ap (λ b. b == 1) (sym (bit t))
        ∙ eq-eqb _ _ low.1

    before : least ≡ highest_active n (number + t)
    before =
        so.found ∙ ap (highest_active n) place
        ∙ sym (passed n w v s t (number + t) is (let h = within in omega (arith, h))
        (λ i h. sym (bit i) ∙ low.2 i h) here)

    one_more : (k : ℕ) → k ≡ number + t → is_in n.active k ≡ true → least ≡ highest_active n k
        → min (group_priority n k) least ≡ highest_active n (suc k)
    one_more k e f g = rw (f, g) refl

    after : suc (number + t) ≡ number + t + 1
    after = omega arith

    raised : min (group_priority n (number + t)) least ≡ highest_active n (number + t + 1)
    raised = one_more (number + t) refl on before ∙ ap (highest_active n) after
