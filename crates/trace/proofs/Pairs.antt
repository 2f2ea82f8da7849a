-- The table of the pairs of hexadecimal digits.
use Rattle.std.proofs.Common.{◌≡◌, ℕ, zero, suc, ◌+◌, ◌-◌, ◌*◌, ◌/◌, ◌%◌, ◌^◌, ◌<◌, Bool, true, ◌&&◌, T, eqb, get_or}
use Rattle.std.proofs.Common.{inl}
use Rattle.std.proofs.Common.{inr, arith, eq-zero-or-pos, eqb→eq, refl}
use lib.Ieee.Fits.{and_l, and_r}
use Rattle.platform.specs.Text.{hex_digit}
use Rattle.trace.specs.declared.hex.TheConstants.{PAIRS}

-- the first pairs of the table, up to a number, are right
abbrev are_pairs : ℕ → Bool
are_pairs zero = true
are_pairs (suc p) =
    (eqb (get_or PAIRS (p * 2) 0) (hex_digit (p / 16)) && eqb (get_or PAIRS (p * 2 + 1) 0) (hex_digit (p % 16)))
    && are_pairs p

below : (n p : ℕ) → T (are_pairs n) → p < n →
    (get_or PAIRS (p * 2) 0 ≡ hex_digit (p / 16)) × (get_or PAIRS (p * 2 + 1) 0 ≡ hex_digit (p % 16))
below zero p t h = absurd (omega arith)
below (suc n) p t h =
    elim (eq-zero-or-pos (n - p)) [
      | inl z ↦
          let e : p ≡ n = omega arith in
          let a = and_l _ (are_pairs n) t in
          rw e (eqb→eq _ _ (and_l _ _ a), eqb→eq _ _ (and_r _ _ a))
      | inr g ↦ below n p (and_r _ (are_pairs n) t) (omega arith)
    ]

-- the pair of each byte is right
pub pair_at : (p : ℕ) → p < 256 →
    (get_or PAIRS (p * 2) 0 ≡ hex_digit (p / 16)) × (get_or PAIRS (p * 2 + 1) 0 ≡ hex_digit (p % 16))
pair_at p h = below 256 p tt h

-- the upper half of an address has its upper two bytes
pub upper_half : (a h : ℕ) → a < 2 ^ 32 → h ≡ a / 0x1_0000 →
    (h / 256 % 256 ≡ a / 0x100_0000) × (h % 256 ≡ a / 0x1_0000 % 256)
upper_half a h small is = (omega arith, rw is refl)
