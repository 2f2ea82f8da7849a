-- The bits of a word: none is set in 0, and setting one leaves the others.
use Rattle.std.proofs.Common.{ℕ, ◌*◌, ◌%◌, ◌^◌, ◌<◌, ◌≡◌, ◌≢◌, true, false, ◌==◌, bit_or, refl, ap, w32}
use Rattle.std.proofs.Math.Nat.{zero-div}
use Rattle.std.proofs.lemmas.Bool.{eq-eqb}
use Rattle.std.proofs.lemmas.Nat.Bits.{bit_at_set_same, bit_at_set_other}
use Rattle.instruction_set.specs.Words.{is_bit}

-- a word with bit k set
abbrev pub with_bit : ℕ → ℕ → ℕ
with_bit v k = bit_or v (1 * 2 ^ k % 2 ^ 32)

pub bit_set : (v k : ℕ) → k < 32 → is_bit (with_bit v k) k ≡ true
bit_set v k h = eq-eqb _ _ (bit_at_set_same w32 v k h)

pub bit_kept : (v k i : ℕ) → k < 32 → i ≢ k → is_bit (with_bit v k) i ≡ is_bit v i
bit_kept v k i h d = ap (λ b. b == 1) (bit_at_set_other w32 v k h i d)

pub no_bit : (k : ℕ) → is_bit 0 k ≡ false
no_bit k = rw (zero-div (2 ^ k)) refl
