-- A range of 32 bits, or of more, has each word in it.
use Rattle.std.proofs.Common.{◌≡◌, ℕ, ◌-◌, ◌^◌, ◌<◌, ◌≤◌, Bool, true, false, not, if◌then◌else◌, ℤ, pos, neg_ℤ, refl}
use Rattle.std.proofs.Common.{sym, ◌∙◌, ap, arith, int_lt, int_eq}
use Rattle.std.proofs.lemmas.Int.{ints}
use Rattle.std.proofs.Math.Nat.{pow-le-pow_right}
use Rattle.instruction_set.specs.Arithmetic.{signed}
use Rattle.instruction_set.specs.Fields.{saturated, nearest, least, greatest}
use Rattle.instruction_set.specs.Products.{low_bits}

-- a word read as signed is below 2^31, and not below -2^31
not_above : (x t : ℕ) → x < 2 ^ 32 → 2 ^ 31 ≤ t → int_lt (pos (t - 1)) (signed x) ≡ false
not_above x t h k = grind (arith, ints)

not_below : (x t : ℕ) → x < 2 ^ 32 → 2 ^ 31 ≤ t → int_lt (signed x) (neg_ℤ (pos t)) ≡ false
not_below x t h k = grind (arith, ints)

within : (from to z : ℤ) → int_lt to z ≡ false → int_lt z from ≡ false → nearest from to z ≡ z
within from to z e f = rw (e, f) refl

not_above_top : (from to z : ℤ) → int_lt to z ≡ false → nearest from to z ≡ (if int_lt z from then from else z)
not_above_top from to z e = rw e refl

half : (n : ℕ) → 31 ≤ n → 2 ^ 31 ≤ 2 ^ n
half n h = pow-le-pow_right {n = 2} (omega arith) h

same_nearest : (is_signed : Bool) (bits x : ℕ) → x < 2 ^ 32 → 32 ≤ bits
    → nearest (least is_signed bits) (greatest is_signed bits) (signed x)
    ≡ (if is_signed then signed x else if int_lt (signed x) (pos 0) then pos 0 else signed x)
same_nearest true bits x b h =
    let t : 2 ^ 31 ≤ 2 ^ (bits - 1) = half (bits - 1) (omega arith) in
    within (least true bits) (greatest true bits) (signed x) (not_above x (2 ^ (bits - 1)) b t)
    (not_below x (2 ^ (bits - 1)) b t)
same_nearest false bits x b h =
    let t : 2 ^ 31 ≤ 2 ^ bits = half bits (omega arith) in
    not_above_top (least false bits) (greatest false bits) (signed x) (not_above x (2 ^ bits) b t)

pub none_beyond : (is_signed : Bool) (bits x : ℕ) → x < 2 ^ 32 → 32 < bits
    → saturated is_signed 32 x ≡ saturated is_signed bits x
unfolding saturated
none_beyond is_signed bits x b h =
    let e : nearest (least is_signed 32) (greatest is_signed 32) (signed x)
    ≡ nearest (least is_signed bits) (greatest is_signed bits) (signed x) =
    same_nearest is_signed 32 x b (omega arith) ∙ sym (same_nearest is_signed bits x b (omega arith)) in
    let r : ◌≡◌ {A = ℕ × Bool} (saturated is_signed 32 x) (saturated is_signed bits x) =
    ap {B = ℕ × Bool} (λ n. (low_bits 32 n, not (int_eq n (signed x)))) e in
    r
