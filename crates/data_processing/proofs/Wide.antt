-- Products and sums of 64 bits: what the code computes modulo 2^64 are the low bits of the whole numbers.
use Rattle.std.proofs.Common.{◌≡◌, ℕ, ◌+◌, ◌-◌, ◌*◌, ◌%◌, ◌^◌, ◌<◌, Bool, true, false, nat_lt, if◌then◌else◌, ℤ, pos}
use Rattle.std.proofs.Common.{negsuc, ◌+ℤ◌, ◌-ℤ◌, FitsSigned, to_z, of_z, refl, sym, ◌∙◌, arith, w32, w64}
use Rattle.std.specs.Int.{int_rem_euclid}
use Rattle.std.proofs.lemmas.Int.{ints, int_rem_euclid_is}
use Rattle.std.proofs.lemmas.Nat.{pow_pos}
use Rattle.instruction_set.specs.Arithmetic.{signed}
use Rattle.instruction_set.specs.Products.{low_bits, product_of, wide_product, wide_accumulated}

-- a word read as signed is what the cast gives
pub signed_cast : (x : ℕ) → x < 2 ^ 32 → to_z w32 x ≡ signed x
signed_cast x h = grind (arith, ints)

-- the low bits are the remainder that isn't negative
remainder : (width : ℕ) (z : ℤ) → int_rem_euclid z (pos (2 ^ width)) ≡ pos (low_bits width z)
remainder width (pos n) = refl
remainder width (negsuc n) = refl

-- z and a multiple of 2^width have the same low bits
pub low_bits_is : (width : ℕ) (z : ℤ) (k m : ℕ) → z +ℤ pos (k * 2 ^ width) ≡ pos m → low_bits width z ≡ m % 2 ^ width
low_bits_is width z k m e =
    let same : pos (low_bits width z) ≡ pos (m % 2 ^ width) =
    sym (remainder width z) ∙ int_rem_euclid_is z (pos (2 ^ width)) (2 ^ width) k m (pow_pos width) refl e in
    cc

-- those of a number that fits are what the cast gives
pub fitting : (z : ℤ) → FitsSigned w64 z → of_z w64 z ≡ low_bits 64 z
fitting (pos n) h = omega (arith, ints)
fitting (negsuc n) h = omega (arith, ints)

-- the low bits of a sum are those of the sum of the low bits
pub low_sum : (z : ℤ) (b : ℕ) → (low_bits 64 z + b) % 2 ^ 64 ≡ low_bits 64 (z +ℤ pos b)
low_sum (pos n) b = omega arith
low_sum (negsuc n) b =
    let m : ℕ = (n + 1) * 2 ^ 64 - (n + 1) + b in
    let e = low_bits_is 64 (negsuc n +ℤ pos b) (n + 1) m (omega (arith, ints)) in
    omega arith

pub low_sum_signed : (z : ℤ) (b : ℕ) → (low_bits 64 z + b) % 2 ^ 64 ≡ low_bits 64 (z +ℤ (pos b -ℤ pos (2 ^ 64)))
low_sum_signed (pos n) b =
    let e = low_bits_is 64 (pos n +ℤ (pos b -ℤ pos (2 ^ 64))) 1 (n + b) (omega (arith, ints)) in
    omega arith
low_sum_signed (negsuc n) b =
    let m : ℕ = (n + 1) * 2 ^ 64 - (n + 1) + b in
    let e = low_bits_is 64 (negsuc n +ℤ (pos b -ℤ pos (2 ^ 64))) (n + 2) m (omega (arith, ints)) in
    omega arith

-- the sum of a product and an addend, read as signed or not
pub low_sum_of : (is_signed : Bool) (x y b : ℕ) → b < 2 ^ 64
    → (wide_product is_signed x y + b) % 2 ^ 64 ≡ wide_accumulated is_signed x y b
unfolding wide_product wide_accumulated
low_sum_of false x y b h = low_sum (product_of false x y) b
low_sum_of true x y b h = lead (nat_lt b (2 ^ 63)) refl
  where
    lead : (below : Bool) → nat_lt b (2 ^ 63) ≡ below
        → (low_bits 64 (product_of true x y) + b) % 2 ^ 64
        ≡ low_bits 64 (product_of true x y +ℤ (if below then pos b else pos b -ℤ pos (2 ^ 64)))
    lead true e = low_sum (product_of true x y) b
    lead false e = low_sum_signed (product_of true x y) b
