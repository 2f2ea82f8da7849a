-- Blocks of addresses, of which a region has all or none.
use Rattle.std.proofs.Common.{pow_pos, ◌≡◌, ℕ, zero, suc, ◌+◌, ◌-◌, ◌*◌, ◌/◌, ◌%◌, ◌^◌, ◌<◌, ◌≤◌, ◌⊎◌, Bool, true}
use Rattle.std.proofs.Common.{false, not, ◌&&◌, ◌==◌, nat_le, if◌then◌else◌, arith, refl, sym, ap, ◌∙◌, inl, inr}
use Rattle.std.proofs.lemmas.Bool.Decides.{nat_tests}
use Rattle.std.proofs.lemmas.Bool.{leb-true, eqb-true, eq-eqb, cases_lt, and_right}
use Rattle.std.proofs.lemmas.Nat.{div_below, le-div, shr-shr}
use Rattle.instruction_set.specs.Words.{is_bit}
use Rattle.platform.specs.declared.mpu.Region.{Region}
use Rattle.platform.specs.Regions.{Mpu, region, matches, agrees, subregion, is_switched_off, is_region_enabled, size}
use Rattle.platform.specs.Regions.{switched_off, owner, owner_below}
use Rattle.mpu.specs.Spans.{BelongTo, grain}

-- the addresses of a block have the same upper bits
pub in_block : (a x u : ℕ) → 0 < u → x / u * u ≤ a → a < x / u * u + u → a / u ≡ x / u
in_block a x u some from to =
    let low : x / u ≤ a / u = le-div (x / u) a u some from in
    let e : suc (x / u) * u ≡ x / u * u + u = omega arith in
    let high : a / u < suc (x / u) = div_below a u (suc (x / u)) some (rw e to) in
    omega arith

pub before_block : (a x u : ℕ) → 0 < u → a < x / u * u → a / u < x / u
before_block a x u some h = div_below a u (x / u) some h

pub beyond_block : (a x u : ℕ) → 0 < u → x / u * u + u ≤ a → x / u < a / u
beyond_block a x u some h =
    let e : suc (x / u) * u ≡ x / u * u + u = omega arith in
    le-div (suc (x / u)) a u some (rw e h)

-- regions that decide alike one by one decide alike together
pub alike_below : (m : Mpu) (a b n : ℕ) → ((k : ℕ) → k < n → matches (region m k) a ≡ matches (region m k) b)
    → owner_below m a n ≡ owner_below m b n
unfolding owner_below
alike_below m a b zero same = refl
alike_below m a b (suc n) same =
    let here : matches (region m n) a ≡ matches (region m n) b = same n (omega arith) in
    let rest : owner_below m a n ≡ owner_below m b n = alike_below m a b n (λ k h. same k (omega arith)) in
    cc

not_at : (x y : ℕ) → (x ≡ y → ⊥) → (x == y) ≡ false
not_at x y h = grind (arith, nat_tests)

-- regions agree with no address before or after their block
pub outside_before : (r : Region) (a s first : ℕ) → s ≡ size r.attributes → first ≡ r.base / 2 ^ (s + 1) * 2 ^ (s + 1)
    → a < first → agrees r a ≡ false
outside_before r a s first e f h = lead (rw e at f)
  where
    lead : first ≡ r.base / 2 ^ (size r.attributes + 1) * 2 ^ (size r.attributes + 1) → agrees r a ≡ false
    lead g =
        let b = before_block a r.base (2 ^ (size r.attributes + 1)) (pow_pos _) (rw g at h) in
        not_at _ _ (λ e. omega arith)

pub outside_beyond : (r : Region) (a s next : ℕ) → s ≡ size r.attributes
    → next ≡ r.base / 2 ^ (s + 1) * 2 ^ (s + 1) + 2 ^ (s + 1) → next ≤ a → agrees r a ≡ false
outside_beyond r a s next e f h = lead (rw e at f)
  where
    lead : next ≡ r.base / 2 ^ (size r.attributes + 1) * 2 ^ (size r.attributes + 1) + 2 ^ (size r.attributes + 1)
        → agrees r a ≡ false
    lead g =
        let b = beyond_block a r.base (2 ^ (size r.attributes + 1)) (pow_pos _) (rw g at h) in
        not_at _ _ (λ e. omega arith)

-- an address above the first of a block with which it doesn't agree is above the whole block
pub past_block : (r : Region) (a s first next : ℕ) → agrees r a ≡ false → s ≡ size r.attributes
    → first ≡ r.base / 2 ^ (s + 1) * 2 ^ (s + 1) → next ≡ r.base / 2 ^ (s + 1) * 2 ^ (s + 1) + 2 ^ (s + 1)
    → first ≤ a → next ≤ a
past_block r a s first next no_part e f g h = lead (cases_lt a next)
  where
    lead : ((a < next) ⊎ (next ≤ a)) → next ≤ a
    lead (inr past) = past
    lead (inl under) =
        let b : a / 2 ^ (s + 1) ≡ r.base / 2 ^ (s + 1) =
        in_block a r.base (2 ^ (s + 1)) (pow_pos _) (rw f at h) (rw g at under) in
        let c = rw e at b in
        let d : agrees r a ≡ true = eq-eqb _ _ c in
        absurd (let w : ⊥ = cc in w)

both_outside : (e o p : Bool) (s t : Bool) → o ≡ false → p ≡ false → (e && o && not s) ≡ (e && p && not t)
both_outside true false false s t h k = refl
both_outside false false false s t h k = refl
both_outside true true p s t h k = absurd (let w : ⊥ = cc in w)
both_outside false true p s t h k = absurd (let w : ⊥ = cc in w)
both_outside true false true s t h k = absurd (let w : ⊥ = cc in w)
both_outside false false true s t h k = absurd (let w : ⊥ = cc in w)

pub matches_outside : (r : Region) (a x : ℕ) → agrees r a ≡ false → agrees r x ≡ false → matches r a ≡ matches r x
unfolding matches
matches_outside r a x h k = both_outside (is_region_enabled r.attributes) _ _ _ _ h k

no_bit : (x j : ℕ) → j < 8 → x / 2 ^ 8 % 256 ≡ 0 → x / 2 ^ (8 + j) % 2 ≡ 0
no_bit x zero h e = omega arith
no_bit x (suc zero) h e = omega arith
no_bit x (suc (suc zero)) h e = omega arith
no_bit x (suc (suc (suc zero))) h e = omega arith
no_bit x (suc (suc (suc (suc zero)))) h e = omega arith
no_bit x (suc (suc (suc (suc (suc zero))))) h e = omega arith
no_bit x (suc (suc (suc (suc (suc (suc zero)))))) h e = omega arith
no_bit x (suc (suc (suc (suc (suc (suc (suc zero))))))) h e = omega arith
no_bit x (suc (suc (suc (suc (suc (suc (suc (suc j)))))))) h e = absurd (let w : ⊥ = omega arith in w)

none_off : (r : Region) (a : ℕ) → switched_off r.attributes ≡ 0 → is_switched_off r a ≡ false
none_off r a e =
    let b : r.attributes / 2 ^ (8 + subregion r a) % 2 ≡ 0 = no_bit r.attributes (subregion r a) (omega arith) e in
    let c : (r.attributes / 2 ^ (8 + subregion r a) % 2 == 1) ≡ false = ap (λ (d : ℕ). d == 1) b in
    and_right (nat_le 7 (size r.attributes)) _ c

small_off : (r : Region) (a : ℕ) → nat_le 7 (size r.attributes) ≡ false → is_switched_off r a ≡ false
small_off r a h = ap (λ (b : Bool). b && is_bit r.attributes (8 + subregion r a)) h

both_whole : (r : Region) (a x : ℕ) → a / 2 ^ (size r.attributes + 1) ≡ x / 2 ^ (size r.attributes + 1)
    → is_switched_off r a ≡ false → is_switched_off r x ≡ false → matches r a ≡ matches r x
unfolding matches
both_whole r a x e s t =
    ap
    (λ (q : ℕ). is_region_enabled r.attributes && (q == r.base / 2 ^ (size r.attributes + 1))
    && not (is_switched_off r a)) e
    ∙ ap (λ (o : Bool). is_region_enabled r.attributes && agrees r x && not o) (s ∙ sym t)

both_eighth : (r : Region) (a x : ℕ) → 7 ≤ size r.attributes
    → a / 2 ^ (size r.attributes - 2) ≡ x / 2 ^ (size r.attributes - 2) → matches r a ≡ matches r x
unfolding matches
both_eighth r a x big e =
    let n : size r.attributes + 1 ≡ (size r.attributes - 2) + 3 = omega arith in
    let p : a / 2 ^ (size r.attributes + 1) ≡ x / 2 ^ (size r.attributes + 1) =
    rw n (sym (shr-shr a (size r.attributes - 2) 3) ∙ ap (λ (q : ℕ). q / 2 ^ 3) e
    ∙ shr-shr x (size r.attributes - 2) 3) in
    ap
    (λ (q : ℕ). is_region_enabled r.attributes && (q == r.base / 2 ^ (size r.attributes + 1))
    && not (is_switched_off r a)) p
    ∙ ap (λ (q : ℕ). is_region_enabled r.attributes && agrees r x
    && not (nat_le 7 (size r.attributes) && is_bit r.attributes (8 + q % 8))) e

-- addresses that agree in the bits that matter to a region lie in it alike
pub matches_inside : (r : Region) (a x : ℕ) → a / 2 ^ grain r.attributes ≡ x / 2 ^ grain r.attributes
    → matches r a ≡ matches r x
matches_inside r a x = lead (nat_le 7 (size r.attributes)) (switched_off r.attributes == 0) refl refl
  where
    lead : (s t : Bool) → nat_le 7 (size r.attributes) ≡ s → (switched_off r.attributes == 0) ≡ t
        → a / 2 ^ (if s && not t then size r.attributes - 2 else size r.attributes + 1)
        ≡ x / 2 ^ (if s && not t then size r.attributes - 2 else size r.attributes + 1) → matches r a ≡ matches r x
    lead true false es et h = both_eighth r a x (leb-true 7 (size r.attributes) es) h
    lead true true es et h =
        let e : switched_off r.attributes ≡ 0 = eqb-true (switched_off r.attributes) 0 et in
        both_whole r a x h (none_off r a e) (none_off r x e)
    lead false t es et h = both_whole r a x h (small_off r a es) (small_off r x es)

pub belong_all : (m : Mpu) (first last a : ℕ)
    → ((k : ℕ) → k < m.count → (x : ℕ) → first ≤ x → x ≤ last → matches (region m k) x ≡ matches (region m k) a)
    → BelongTo m first last (owner m a)
unfolding owner
belong_all m first last a same x from to = alike_below m x a m.count (λ k h. same k h x from to)

pub alike_inside : (r : Region) (a x g first next : ℕ) → g ≡ grain r.attributes
    → first ≡ x / 2 ^ g * 2 ^ g → next ≡ x / 2 ^ g * 2 ^ g + 2 ^ g → first ≤ a → a < next → matches r a ≡ matches r x
alike_inside r a x g first next e f n from to =
    let b : a / 2 ^ g ≡ x / 2 ^ g = in_block a x (2 ^ g) (pow_pos _) (rw f at from) (rw n at to) in
    matches_inside r a x (rw e at b)

pub alike_disabled : (r : Region) (a x : ℕ) → is_region_enabled r.attributes ≡ false → matches r a ≡ matches r x
unfolding matches
alike_disabled r a x e =
    ap (λ (b : Bool). b && agrees r a && not (is_switched_off r a)) e
    ∙ sym (ap (λ (b : Bool). b && agrees r x && not (is_switched_off r x)) e)
