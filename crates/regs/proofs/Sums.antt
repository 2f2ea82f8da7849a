-- The overflow of a sum, by the signs of its operands and of its result.
use Rattle.std.proofs.Common.{◌≡◌, ◌≢◌, ℕ, ◌+◌, ◌*◌, ◌/◌, ◌^◌, ◌<◌, ◌≤◌, Bool, true, false, not, ◌&&◌, ℤ, pos, ◌+ℤ◌}
use Rattle.std.proofs.Common.{◌-ℤ◌, refl, sym, ap, ap₂, arith, int_eq}
use Rattle.std.proofs.lemmas.Int.{ints}
use Rattle.std.proofs.lemmas.Bool.Decides.{Decides-int_eq}
use Rattle.instruction_set.specs.Arithmetic.{signed, unsigned_sum, signed_sum, sum_result, same, carry_value}
use Rattle.instruction_set.specs.Words.{is_bit}

-- the words of that sign
abbrev IsSigned : Bool → ℕ → Type 0
IsSigned true x = (2 ^ 31 ≤ x) × (x < 2 ^ 32)
IsSigned false x = x < 2 ^ 31

-- a word of that sign, read as signed
abbrev read : Bool → ℕ → ℤ
read true x = pos x -ℤ pos (2 ^ 32)
read false x = pos x

equal : (p q : ℤ) → p ≡ q → not (int_eq p q) ≡ false
equal p q e = ap not ((Decides-int_eq p q).1 e)

unequal : (p q : ℤ) → p ≢ q → not (int_eq p q) ≡ true
unequal p q n = grind (arith, Decides-int_eq p q)

is_signed : (b : Bool) (x : ℕ) → is_bit x 31 ≡ b → x < 2 ^ 32 → IsSigned b x
is_signed true x e h = (grind arith, h)
is_signed false x e h = grind arith

signed_is : (b : Bool) (x : ℕ) → IsSigned b x → signed x ≡ read b x
signed_is true x h = grind (arith, ints)
signed_is false x h = grind (arith, ints)

-- q is the carry out
by_signs : (a b d : Bool) (x y r k q : ℕ) (s t : ℤ) → IsSigned a x → IsSigned b y → IsSigned d r → k ≤ 1 →
    x + y + k ≡ q * 2 ^ 32 + r → s ≡ read a x +ℤ read b y +ℤ pos k → t ≡ read d r →
    (same a b && not (same a d)) ≡ not (int_eq s t)
by_signs true true true x y r k q s t hx hy hr hk e hs ht = sym (equal s t (omega (arith, ints)))
by_signs true true false x y r k q s t hx hy hr hk e hs ht = sym (unequal s t (λ h. omega (arith, ints)))
by_signs true false true x y r k q s t hx hy hr hk e hs ht = sym (equal s t (omega (arith, ints)))
by_signs true false false x y r k q s t hx hy hr hk e hs ht = sym (equal s t (omega (arith, ints)))
by_signs false true true x y r k q s t hx hy hr hk e hs ht = sym (equal s t (omega (arith, ints)))
by_signs false true false x y r k q s t hx hy hr hk e hs ht = sym (equal s t (omega (arith, ints)))
by_signs false false true x y r k q s t hx hy hr hk e hs ht = sym (unequal s t (λ h. omega (arith, ints)))
by_signs false false false x y r k q s t hx hy hr hk e hs ht = sym (equal s t (omega (arith, ints)))

one_at_most : (c : Bool) → carry_value c ≤ 1
one_at_most true = omega arith
one_at_most false = omega arith

-- the sum overflows where both operands have one sign and the result has the other
pub signs_of_sum : (x y : ℕ) (c : Bool) → x < 2 ^ 32 → y < 2 ^ 32 →
    (same (is_bit x 31) (is_bit y 31) && not (same (is_bit x 31) (is_bit (sum_result x y c) 31)))
    ≡ not (int_eq (signed_sum x y c) (signed (sum_result x y c)))
signs_of_sum x y c hx hy =
    let r : ℕ = sum_result x y c in
    let hr : r < 2 ^ 32 = omega arith in
    let a = is_signed (is_bit x 31) x refl hx in
    let b = is_signed (is_bit y 31) y refl hy in
    let d = is_signed (is_bit r 31) r refl hr in
    by_signs (is_bit x 31) (is_bit y 31) (is_bit r 31) x y r (carry_value c) (unsigned_sum x y c / 2 ^ 32)
    (signed_sum x y c) (signed r) a b d (one_at_most c) (omega arith)
    (ap₂ (λ u v. u +ℤ v +ℤ pos (carry_value c)) (signed_is (is_bit x 31) x a) (signed_is (is_bit y 31) y b))
    (signed_is (is_bit r 31) r d)
