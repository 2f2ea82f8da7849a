-- The fields of xPSR in a frame, and SP above it.
use Rattle.std.proofs.Common.{◌≡◌, ◌≢◌, ℕ, ◌+◌, ◌*◌, ◌/◌, ◌%◌, ◌^◌, ◌<◌, ◌≤◌, Bool, true, false, ◌==◌, if◌then◌else◌}
use Rattle.std.proofs.Common.{bit_or, refl, ◌∙◌, ap, arith}
use Rattle.std.proofs.lemmas.Bool.Decides.{nat_tests}
use Rattle.std.proofs.lemmas.Nat.{or_shifted}
use Rattle.instruction_set.specs.Frames.{frame_base, pushed_xpsr, above_frame, it_of}
use Rattle.instruction_set.specs.Registers.{Registers, sp, mask_if, flags_of}
use Rattle.instruction_set.specs.Words.{word_sum, is_bit}

-- 1 for a set bit
abbrev number : Bool → ℕ
number b = if b then 1 else 0

number_bound : (b : Bool) → number b ≤ 1
number_bound true = omega arith
number_bound false = omega arith

weighed_is : (b : Bool) (weight : ℕ) → mask_if b weight ≡ number b * weight
weighed_is true weight = omega arith
weighed_is false weight = omega arith

is_one : (b : Bool) (n : ℕ) → n ≡ number b → (n == 1) ≡ b
is_one true n e = rw e refl
is_one false n e = rw e refl

-- the fields of a word, from the lowest
record AreFields (x n z c v q i t j b e : ℕ) : Type 0 where
  negative : x / 2 ^ 31 % 2 ≡ n
  zero : x / 2 ^ 30 % 2 ≡ z
  carry : x / 2 ^ 29 % 2 ≡ c
  overflow : x / 2 ^ 28 % 2 ≡ v
  saturated : x / 2 ^ 27 % 2 ≡ q
  low : x / 2 ^ 25 % 4 ≡ i
  thumb : x / 2 ^ 24 % 2 ≡ t
  high : x / 2 ^ 10 % 2 ^ 6 ≡ j
  bit_9 : x / 2 ^ 9 % 2 ≡ b
  exception : x % 2 ^ 9 ≡ e

fields : (x n z c v q i t j b e : ℕ) → n ≤ 1 → z ≤ 1 → c ≤ 1 → v ≤ 1 → q ≤ 1 → i < 4 → t ≤ 1 → j < 64 → b ≤ 1 →
    e < 512 →
    x ≡ n * 2 ^ 31 + z * 2 ^ 30 + c * 2 ^ 29 + v * 2 ^ 28 + q * 2 ^ 27 + i * 2 ^ 25 + t * 2 ^ 24 + j * 2 ^ 10 + e
    + b * 2 ^ 9 →
    AreFields x n z c v q i t j b e
fields x n z c v q i t j b e n1 z1 c1 v1 q1 i3 t1 j63 b1 e511 is = record {
  negative = omega arith;
  zero = omega arith;
  carry = omega arith;
  overflow = omega arith;
  saturated = omega arith;
  low = omega arith;
  thumb = omega arith;
  high = omega arith;
  bit_9 = omega arith;
  exception = omega arith;
}

-- the fields of xPSR as it is pushed
record AreParts (r : Registers) : Type 0 where
  fields : AreFields (pushed_xpsr r) (number r.flags.negative) (number r.flags.zero) (number r.flags.carry)
      (number r.flags.overflow) (number r.flags.saturated) (r.it_state % 4) (number r.thumb) (r.it_state / 4)
      (number (is_bit (sp r) 2)) r.exception

parts : (r : Registers) → r.it_state < 2 ^ 8 → r.exception < 2 ^ 9 → AreParts r
parts r it exception =
    let n = weighed_is r.flags.negative (2 ^ 31) in
    let z = weighed_is r.flags.zero (2 ^ 30) in
    let c = weighed_is r.flags.carry (2 ^ 29) in
    let v = weighed_is r.flags.overflow (2 ^ 28) in
    let q = weighed_is r.flags.saturated (2 ^ 27) in
    let t = weighed_is r.thumb (2 ^ 24) in
    let b = weighed_is (is_bit (sp r) 2) (2 ^ 9) in
    record {
      fields =
          fields _ _ _ _ _ _ _ _ _ _ _ (number_bound _) (number_bound _) (number_bound _) (number_bound _)
          (number_bound _) (omega arith) (number_bound _) (omega arith) (number_bound _) exception
          (rw (n, z, c, v, q, t, b) (omega arith));
    }

pub flags_back : (r : Registers) → r.it_state < 2 ^ 8 → r.exception < 2 ^ 9 → flags_of (pushed_xpsr r) ≡ r.flags
flags_back r it exception =
    let p = (parts r it exception).fields in
    let n = is_one r.flags.negative _ p.negative in
    let z = is_one r.flags.zero _ p.zero in
    let c = is_one r.flags.carry _ p.carry in
    let v = is_one r.flags.overflow _ p.overflow in
    let q = is_one r.flags.saturated _ p.saturated in
    rw (n, z, c, v, q) refl

pub it_back : (r : Registers) → r.it_state < 2 ^ 8 → r.exception < 2 ^ 9 → it_of (pushed_xpsr r) ≡ r.it_state
it_back r it exception =
    let p = (parts r it exception).fields in
    let low = p.low in
    let high = p.high in
    omega (arith, low, high)

pub thumb_back : (r : Registers) → r.it_state < 2 ^ 8 → r.exception < 2 ^ 9 → is_bit (pushed_xpsr r) 24 ≡ r.thumb
thumb_back r it exception = is_one _ _ (parts r it exception).fields.thumb

pub exception_back : (r : Registers) → r.it_state < 2 ^ 8 → r.exception < 2 ^ 9 → pushed_xpsr r % 2 ^ 9 ≡ r.exception
exception_back r it exception = (parts r it exception).fields.exception

bit_9_back : (r : Registers) → r.it_state < 2 ^ 8 → r.exception < 2 ^ 9 → is_bit (pushed_xpsr r) 9 ≡ is_bit (sp r) 2
bit_9_back r it exception = is_one _ _ (parts r it exception).fields.bit_9

-- xPSR is a word
pub xpsr_is_word : (r : Registers) → r.it_state < 2 ^ 8 → r.exception < 2 ^ 9 → pushed_xpsr r < 2 ^ 32
xpsr_is_word r it exception =
    let n = weighed_is r.flags.negative (2 ^ 31) in
    let z = weighed_is r.flags.zero (2 ^ 30) in
    let c = weighed_is r.flags.carry (2 ^ 29) in
    let v = weighed_is r.flags.overflow (2 ^ 28) in
    let q = weighed_is r.flags.saturated (2 ^ 27) in
    let t = weighed_is r.thumb (2 ^ 24) in
    let b = weighed_is (is_bit (sp r) 2) (2 ^ 9) in
    let n1 = number_bound r.flags.negative in
    let z1 = number_bound r.flags.zero in
    let c1 = number_bound r.flags.carry in
    let v1 = number_bound r.flags.overflow in
    let q1 = number_bound r.flags.saturated in
    let t1 = number_bound r.thumb in
    let b1 = number_bound (is_bit (sp r) 2) in
    rw (n, z, c, v, q, t, b) (omega arith)

-- ---- SP

raised : (x word : ℕ) (bit : Bool) → is_bit word 9 ≡ bit → is_bit x 2 ≡ bit → x < 2 ^ 32 → x % 4 ≡ 0 →
    above_frame (frame_base x) word ≡ x
raised x word true e f below aligned =
    let base : word_sum (frame_base x) 0x20 ≡ x / 8 * 2 ^ 3 = omega arith in
    let set : x / 4 % 2 ≡ 1 = grind (arith, nat_tests, f) in
    let four : bit_or (word_sum (frame_base x) 0x20) 4 ≡ x / 8 * 2 ^ 3 + 4 = ap (λ k. bit_or k 4) base ∙
    or_shifted (x / 8) 3 4 (omega arith) in
    rw e (four ∙ omega arith)
raised x word false e f below aligned =
    let clear : x / 4 % 2 ≢ 1 = grind (arith, nat_tests, f) in
    rw e (omega arith)

pub sp_back : (r : Registers) → r.it_state < 2 ^ 8 → r.exception < 2 ^ 9 → sp r < 2 ^ 32 → sp r % 4 ≡ 0 →
    above_frame (frame_base (sp r)) (pushed_xpsr r) ≡ sp r
sp_back r it exception below aligned = raised (sp r) (pushed_xpsr r) _ (bit_9_back r it exception) refl below aligned
