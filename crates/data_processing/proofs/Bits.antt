-- The bits of a word in the other order, and how many zeros stand above its highest one.
use Rattle.std.proofs.Common.{◌≡◌, ℕ, zero, suc, ◌+◌, ◌-◌, ◌*◌, ◌/◌, ◌%◌, ◌^◌, ◌<◌, ◌≤◌, Bool, true, false}
use Rattle.std.proofs.Common.{if◌then◌else◌, refl, sym, ◌∙◌, ap, arith}
use Rattle.std.specs.Int.{reverse_bits, reverse_bits_onto, leading_zeros, w32}
use Rattle.std.proofs.Math.Nat.{pow-le-pow_right, mul-le-mul_right, pow-suc, lt_of_not-le}
use Rattle.std.proofs.lemmas.Bool.Decides.{nat_tests}
use Rattle.std.proofs.lemmas.Nat.{leading_length, pow_pos, div_below, shr-shr, shr_split, le-div}
use Rattle.instruction_set.specs.Fields.{reversed, significant_bits, count_leading_zero_bits}
use Rattle.instruction_set.specs.Words.{is_bit}

-- i bits are placed, and k are left
placed : (k i x a : ℕ) → k + i ≡ 32 → a * 2 ^ k ≡ reversed i x → reverse_bits_onto k (x / 2 ^ i) a ≡ reversed 32 x
unfolding reversed reverse_bits_onto
placed zero i x a e h =
    let all : i ≡ 32 = omega arith in
    let one : a * 2 ^ 0 ≡ a = omega arith in
    sym one ∙ h ∙ ap (λ n. reversed n x) all
placed (suc k) i x a e h =
    let next : x / 2 ^ i / 2 ≡ x / 2 ^ (suc i) = shr-shr x i 1 ∙ ap (λ n. x / 2 ^ n) (omega arith) in
    let at : k ≡ 31 - i = omega arith in
    let b : ℕ = x / 2 ^ i % 2 in
    let twice : 2 ^ (suc k) ≡ 2 * 2 ^ k = grind (arith, pow-suc) in
    let spread : (a * 2 + b) * 2 ^ k ≡ a * (2 * 2 ^ k) + b * 2 ^ k = grind arith in
    let here : (a * 2 + b) * 2 ^ k ≡ reversed (suc i) x =
    spread ∙ ap (λ p. a * p + b * 2 ^ k) (sym twice) ∙ ap (λ v. v + b * 2 ^ k) h
    ∙ ap (λ n. reversed i x + b * 2 ^ n) at in
    rw next (placed k (suc i) x (a * 2 + b) (omega arith) here)

none_placed : (x : ℕ) → 0 * 2 ^ 32 ≡ reversed 0 x
unfolding reversed
none_placed x = refl

pub reversed_bits : (x : ℕ) → reverse_bits w32 x ≡ reversed 32 x
reversed_bits x = let whole : x / 2 ^ 0 ≡ x = omega arith in rw whole at (placed 32 0 x 0 refl (none_placed x))

greater_power : (i m : ℕ) → 2 ^ i < 2 ^ m → i < m
greater_power i m h =
    lt_of_not-le (λ (k : m ≤ i). let e : 2 ^ m ≤ 2 ^ i = pow-le-pow_right {n = 2} (omega arith) k in
    absurd (omega arith))

-- bit i is the top one of a number of i + 1 bits
top_bit : (a i : ℕ) → a < 2 ^ (suc i) → 2 ^ (suc i) ≤ 2 * a + 1 → is_bit a i ≡ true
top_bit a i below above =
    let p : ℕ = 2 ^ i in
    let twice : 2 ^ (suc i) ≡ 2 * p = grind (arith, pow-suc) in
    let at_least : 1 ≤ a / p = le-div 1 a p (pow_pos i) (omega arith) in
    let at_most : a / p < 2 = div_below a p 2 (pow_pos i) (omega arith) in
    let one : a / p ≡ 1 = omega arith in
    rw one refl

-- a number below 2^m, but not below the power before it, has m bits
has_bits : (n a m : ℕ) → m ≤ n → a < 2 ^ m → 2 ^ m ≤ 2 * a + 1 → significant_bits n a ≡ m
unfolding significant_bits
has_bits zero a m h below above = omega arith
has_bits (suc i) a m h below above = lead (λ k. has_bits i a m k below above) (is_bit a i) refl
  where
    lead : (m ≤ i → significant_bits i a ≡ m) → (top : Bool) → is_bit a i ≡ top
        → (if top then i + 1 else significant_bits i a) ≡ m
    lead rest true e =
        let split : a / 2 ^ i * 2 ^ i + a % 2 ^ i ≡ a = shr_split a i in
        let one : 1 ≤ a / 2 ^ i = grind (arith, nat_tests) in
        let at_least : 1 * 2 ^ i ≤ a / 2 ^ i * 2 ^ i = mul-le-mul_right (2 ^ i) one in
        let past : i < m = greater_power i m (omega arith) in
        omega arith
    lead rest false e =
        let none : suc i ≤ m → ⊥ = λ (k : suc i ≤ m).
        let q : m ≡ suc i = omega arith in
        let t = top_bit a i (rw q at below) (rw q at above) in
        cc in
        rest (omega arith)

pub leading_zeros_of : (x : ℕ) → x < 2 ^ 32 → leading_zeros w32 x ≡ count_leading_zero_bits x
leading_zeros_of x h =
    let l = leading_length 32 x h in
    let e : significant_bits 32 x ≡ l.0 = has_bits 32 x l.0 (omega arith) l.2 l.3 in
    omega arith

pub ruleset rearranged_lemmas = (reversed_bits, leading_zeros_of)
